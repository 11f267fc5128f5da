-- Clauses that say that terms lead into some places.
use Rattle.std.proofs.Common.{◌≡◌, ℕ, ◌<◌, true, List, length, get_or, sym, subst, inl, inr, ◌⊎◌, arith, ℤ, pos, ◌≤ℤ◌, ◌<ℤ◌}
use Rattle.std.specs.List.{Contains}
use Rattle.std.proofs.lemmas.Int.{ints}
use Rattle.std.proofs.lemmas.List.Elements.{All-from_get_or}
use Rattle.fzn_domain.specs.declared.literal.Lit.{Lit}
use Rattle.fzn_domain.specs.declared.literal.VarId.{VarId}
use Rattle.fzn_domain.specs.declared.literal.Op.TheVariants.{AtMost, AtLeast}
use Rattle.fzn_domain.specs.Ascending.{IsAscending}
use Rattle.fzn_domain.specs.IntSet.{IntSet, contains}
use Rattle.fzn_domain.specs.Narrow.{IsVariable, set_of}
use Rattle.fzn_values.specs.declared.term.Term.{Term}
use Rattle.fzn_values.specs.declared.term.Term.TheVariants.{Variable}
use Rattle.fzn_meaning.specs.declared.constraint.Constraint.TheVariants.{Circuit}
use Rattle.fzn_values.specs.Entries.{IsIndex}
use Rattle.fzn_rules.specs.declared.rule.Rule.TheVariants.{Cut}
use Rattle.fzn_rules.specs.Rules.{IsMet}
use Rattle.fzn_sets.specs.Terms.{MayBe, term_at}
use Rattle.fzn_rules.specs.Cut.{LeadsInto, IsCutMet}
use Rattle.fzn_trail.specs.Levels.{Levels}
use Rattle.fzn_propagator.specs.Clause.{Says, IsFalseClause, IsJustified}
use Rattle.fzn_terms.specs.Denied.{that, IsClaimExplained, IsGrown}
use Rattle.fzn_circuit.specs.Closed.{IsPlaceIf, LeadsIntoBetween}
use Rattle.fzn_propagator.proofs.CallerLemmas.{forcing_of_false, justified_where}
use Rattle.fzn_terms.proofs.OrderLemmas.{le_lt, at_most}

-- ---- numbers

less_or_same : (v k : ℤ) → v ≤ℤ k → (v <ℤ k) ⊎ (k ≡ v)
less_or_same v k h = grind (arith, ints)

more_or_not : (v k : ℤ) → (v <ℤ k) ⊎ (k ≤ℤ v)
more_or_not v k = grind (arith, ints)

none_between : (x next : ℤ) → next ≤ℤ x → x <ℤ next → ⊥
none_between x next h k = omega (arith, ints)

not_below_self : (low v : ℤ) → low ≤ℤ v → v <ℤ low → ⊥
not_below_self low v h k = omega (arith, ints)

-- ---- from value to value

-- the values of the variable from low on that are below the bound are among the places
abbrev pub LeadsIntoBelow : List ℤ → VarId → ℤ → ℤ → List IntSet → Type 0
LeadsIntoBelow places var low bound sets = (value : ℤ) → low ≤ℤ value → value <ℤ bound → IsPlaceIf places (Variable var) value sets

module _ (trail : Levels) (places : List ℤ) (var : VarId) (low : ℤ) (old : List Lit) where
  pub below_none : IsFalseClause trail old → IsGrown trail (LeadsIntoBelow places var low low) old old
  below_none still = record { still = still; keeps = λ sets left. left; says = λ sets left v from less. absurd (not_below_self low v from less) }

  module _ (value : ℤ) (mid new : List Lit) (variable : IsVariable (length trail.declared) var) (before : IsGrown trail (LeadsIntoBelow places var low value) old mid) (here : IsGrown trail (IsPlaceIf places (Variable var) value) mid new) where
    -- so far as the value itself
    up_to : Says trail.declared new (LeadsIntoBetween places var low value)
    up_to sets left v from le may = elim (less_or_same v value le) [
      | inl less ↦ before.says sets (here.keeps sets left) v from less may
      | inr same ↦ subst (Contains places) same (here.says sets left (subst (MayBe sets (Variable var)) (sym same) may))
    ]

    -- so far as the next one
    pub below_next : (next : ℤ) → ((v : ℤ) → contains (set_of trail.declared var) v ≡ true → value <ℤ v → next ≤ℤ v) → IsGrown trail (LeadsIntoBelow places var low next) old new
    below_next next first = record {
      still = here.still;
      keeps = λ sets left. before.keeps sets (here.keeps sets left);
      says = λ sets left v from less may. elim (more_or_not value v) [
        | inl above ↦ absurd (none_between v next (first v (left.left (Variable var) v variable may).0 above) less)
        | inr le ↦ up_to sets left v from le may
      ];
    }

    -- there is none above it up to the high end
    pub all_between : (high : ℤ) → ((v : ℤ) → contains (set_of trail.declared var) v ≡ true → v ≤ℤ high → v ≤ℤ value) → IsGrown trail (LeadsIntoBetween places var low high) old new
    all_between high last = record {
      still = here.still;
      keeps = λ sets left. before.keeps sets (here.keeps sets left);
      says = λ sets left v from to may. up_to sets left v from (last v (left.left (Variable var) v variable may).0 to) may;
    }

pub last_before : (value next high v : ℤ) → high <ℤ next → (value <ℤ v → next ≤ℤ v) → v ≤ℤ high → v ≤ℤ value
last_before value next high v over first to = elim (more_or_not value v) [
  | inl above ↦ absurd (none_between v next (first above) (le_lt v high next to over))
  | inr le ↦ le
]

-- ---- one term

pub leads_into : (trail : Levels) (places : List ℤ) (var : VarId) (low high : ℤ) (old one two new : List Lit) → IsClaimExplained trail (that (Variable var) AtLeast low) old one → IsClaimExplained trail (that (Variable var) AtMost high) one two → IsGrown trail (LeadsIntoBetween places var low high) two new → IsGrown trail (λ sets. LeadsInto sets places (Variable var)) old new
leads_into trail places var low high old one two new from to between = record {
  still = between.still;
  keeps = λ sets left. from.keeps sets (to.keeps sets (between.keeps sets left));
  says = λ sets left v may.
      let ends = between.keeps sets left in
      between.says sets left v (at_most low v (from.says sets (to.keeps sets ends) v may)) (at_most v high (to.says sets ends v may)) may;
}

-- ---- all places

-- the first so many places lead into the places
abbrev pub LeadInto : List Term → List ℤ → ℕ → List IntSet → Type 0
LeadInto successors places count sets = (k : ℕ) → k < count → LeadsInto sets places (term_at successors (get_or places k (pos 0)))

pub closed_inferred : (trail : Levels) (successors : List Term) (places : List ℤ) (clause : List Lit) → 0 < length places → length places < length successors → IsAscending places → ((k : ℕ) → k < length places → IsIndex (length successors) (get_or places k (pos 0))) → IsFalseClause trail clause → Says trail.declared clause (LeadInto successors places (length places)) → IsJustified trail (Circuit successors) (Cut places) clause
unfolding IsMet IsCutMet
closed_inferred trail successors places clause some fewer up indices still says =
    justified_where trail (Circuit successors) (Cut places) clause (forcing_of_false trail clause still) (λ sets left. record {
      some = some;
      rising = up;
      indices = All-from_get_or (IsIndex (length successors)) places (pos 0) indices;
      not_all = fewer;
      closed = All-from_get_or (λ place. LeadsInto sets places (term_at successors place)) places (pos 0) (says sets left);
    })
