-- The clause that some term has another value, term by term.
use Rattle.std.proofs.Common.{◌≡◌, ◌+◌, ℕ, ◌<◌, Bool, true, false, not, List, [], ◌∷◌, ◌++◌, length, take, get_or, refl, sym, ap, ap₂, subst, ◌∙◌, inl, inr, arith, ℤ, All}
use Rattle.std.proofs.lemmas.Int.{ints}
use Rattle.std.proofs.lemmas.Bool.{cases_Bool, true≢false, not-true, not-false}
use Rattle.std.proofs.lemmas.List.Elements.{All-nil, All-more, All-weaker}
use Rattle.fzn_domain.specs.declared.literal.VarId.{VarId}
use Rattle.fzn_domain.specs.declared.literal.Lit.{Lit}
use Rattle.fzn_domain.specs.declared.literal.Op.TheVariants.{NotEqual}
use Rattle.fzn_domain.specs.Limits.{IsInLimits}
use Rattle.fzn_domain.specs.Literal.{is_true_at, negated}
use Rattle.fzn_domain.specs.IntSet.{IntSet, is_possible, least, greatest}
use Rattle.fzn_domain.specs.Narrow.{IsVariable, set_of}
use Rattle.fzn_domain.proofs.SetLemmas.{least_le, le_greatest, possible_when, impossible_when, is_true_at-negated}
use Rattle.fzn_values.specs.declared.term.Term.{Term}
use Rattle.fzn_values.specs.declared.term.Term.TheVariants.{Variable}
use Rattle.fzn_values.specs.Term.{IsTerm}
use Rattle.fzn_sets.specs.Terms.{least_value}
use Rattle.fzn_trail.specs.Levels.{Levels}
use Rattle.fzn_propagator.specs.Clause.{IsWritable}
use Rattle.fzn_propagator.specs.Left.{IsLeft}
use Rattle.fzn_propagator.proofs.CallerLemmas.{differs_not, same_value, left_of_more, last_fails, false_of_none, false_push, forcing_push}
use Rattle.fzn_terms.specs.Values.{IsFixed}
use Rattle.fzn_fixed.specs.Denial.{IsOnlyLeft, IsOtherValue, IsDenial, IsDenialOr, IsTrueOnSets}

-- a variable that has one value
pub other_value_is : (trail : Levels) (term : Term) (var : VarId) (low value : ℤ) → term ≡ Variable var → IsInLimits low → low ≡ least (set_of trail.sets var) → value ≡ low → IsFixed trail.sets term → IsOtherValue trail term (record { var = var; op = NotEqual; value = value })
other_value_is trail term var low value of limits is same fixed =
    let s = set_of trail.sets var in
    let lit : Lit = record { var = var; op = NotEqual; value = value } in
    let ends : least s ≡ greatest s = subst (IsFixed trail.sets) of fixed in
    record {
      of_term = of;
      writable = (omega (arith, ints, limits.0), omega (arith, ints, limits.1));
      impossible = impossible_when s lit (λ v here.
          let from = least_le s v here in
          let to = le_greatest s v here in
          differs_not v value (omega (arith, ints)));
      only = λ v h. same_value v value h ∙ same ∙ is ∙ sym (ap (least_value trail.sets) of);
    }

only_more : (trail : Levels) (clause more : List Lit) (term : Term) → IsOnlyLeft trail clause term → IsOnlyLeft trail (clause ++ more) term
only_more trail clause more term only v left = only v (left_of_more trail.declared clause more term v left)

only_each_more : (trail : Levels) (clause more : List Lit) (terms : List Term) → All (IsOnlyLeft trail clause) terms → All (IsOnlyLeft trail (clause ++ more)) terms
only_each_more trail clause more terms = All-weaker (IsOnlyLeft trail clause) (IsOnlyLeft trail (clause ++ more)) (λ t h. only_more trail clause more t h) terms

only_by_lit : (trail : Levels) (clause : List Lit) (term : Term) (lit : Lit) → IsOtherValue trail term lit → IsOnlyLeft trail (clause ++ lit ∷ []) term
only_by_lit trail clause term lit other v left =
    other.only v (last_fails trail.declared clause lit v (subst (λ (t : Term). IsLeft trail.declared (clause ++ lit ∷ []) t v) other.of_term left))

module _ (trail : Levels) (terms : List Term) (i : ℕ) (clause : List Lit) (d : Term) (below : i < length terms) where
  -- the next term is a variable
  pub denial_push : (lit : Lit) → IsTerm (length trail.declared) (get_or terms i d) → IsDenial trail (take i terms) clause → IsOtherValue trail (get_or terms i d) lit → IsDenial trail (take (i + 1) terms) (clause ++ lit ∷ [])
  denial_push lit fits before other = record {
    still = false_push trail clause lit before.still (subst (IsTerm (length trail.declared)) other.of_term fits) other.writable other.impossible;
    only = All-more (IsOnlyLeft trail (clause ++ lit ∷ [])) terms i d below (only_each_more trail clause (lit ∷ []) (take i terms) before.only) (only_by_lit trail clause (get_or terms i d) lit other);
  }

  -- it is a constant
  pub denial_same : IsDenial trail (take i terms) clause → ((v : ℤ) → IsLeft trail.declared [] (get_or terms i d) v → v ≡ least_value trail.sets (get_or terms i d)) → IsDenial trail (take (i + 1) terms) clause
  denial_same before only = record {
    still = before.still;
    only = All-more (IsOnlyLeft trail clause) terms i d below before.only (only_more trail [] clause (get_or terms i d) only);
  }

pub denial_none : (trail : Levels) → IsDenial trail [] []
denial_none trail = record { still = false_of_none trail [] refl; only = All-nil (IsOnlyLeft trail []) }

-- ---- a literal behind it

module _ (trail : Levels) (terms : List Term) (clause : List Lit) (lit : Lit) (variable : IsVariable (length trail.declared) lit.var) (writable : IsWritable lit) (denial : IsDenial trail terms clause) where
  pub forced : is_possible (set_of trail.sets lit.var) (negated lit) ≡ true → IsDenialOr trail terms lit (clause ++ lit ∷ [])
  forced may_fail = record {
    forcing = forcing_push trail clause lit denial.still variable writable may_fail;
    only = only_each_more trail clause (lit ∷ []) terms denial.only;
    literal = λ v left. last_fails trail.declared clause lit v left;
  }

-- where its negation is not possible, it is true
pub true_where_certain : (trail : Levels) (lit : Lit) → is_possible (set_of trail.sets lit.var) (negated lit) ≡ false → IsTrueOnSets trail.sets lit
true_where_certain trail lit certain v here = elim (cases_Bool (is_true_at lit v)) [
  | inl holds ↦ holds
  | inr fails ↦ absurd (true≢false (sym (possible_when (set_of trail.sets lit.var) (negated lit) v here (is_true_at-negated lit v ∙ ap not fails)) ∙ certain))
]

-- ---- in the words of the calls

pub certain_of : (trail : Levels) (s : IntSet) (lit l : Lit) (r : Bool) → r ≡ not (is_possible s l) → s ≡ set_of trail.sets lit.var → l ≡ negated lit → r ≡ true → is_possible (set_of trail.sets lit.var) (negated lit) ≡ false
certain_of trail s lit l r is at same told = sym (ap₂ is_possible at same) ∙ not-true (is_possible s l) (sym is ∙ told)

pub uncertain_of : (trail : Levels) (s : IntSet) (lit l : Lit) (r : Bool) → r ≡ not (is_possible s l) → s ≡ set_of trail.sets lit.var → l ≡ negated lit → r ≡ false → is_possible (set_of trail.sets lit.var) (negated lit) ≡ true
uncertain_of trail s lit l r is at same told = sym (ap₂ is_possible at same) ∙ not-false (is_possible s l) (sym is ∙ told)
