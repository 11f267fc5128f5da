-- Which values a clause leaves, and when it is false or forces a literal.
use Rattle.std.proofs.Common.{◌≡◌, ◌≢◌, ℕ, ◌-◌, ◌<◌, Bool, true, false, cond, List, [], ◌∷◌, ◌++◌, length, length-append, get_or, refl, sym, ap, subst, ◌∙◌, inl, inr, arith, ℤ, All, ◌≤ℤ◌}
use Rattle.std.proofs.lemmas.Int.{ints}
use Rattle.std.proofs.lemmas.Bool.{cases_eq, not-true}
use Rattle.std.proofs.lemmas.List.{get_or_append_left}
use Rattle.std.proofs.lemmas.List.Elements.{All-head, All-tail, All-cons, All-contains, All-get_or, Contains-push, filter-append}
use Rattle.fzn_domain.specs.declared.literal.VarId.{VarId}
use Rattle.fzn_domain.specs.declared.literal.Lit.{Lit}
use Rattle.fzn_domain.specs.Literal.{is_true_at, negated}
use Rattle.fzn_domain.specs.IntSet.{IntSet, contains, size, no_values, is_possible, kept, least, greatest}
use Rattle.fzn_domain.specs.Narrow.{IsVariable, IsClauseOver, NoneEmpty, set_of, narrowed, denied, possible_in, is_some_empty}
use Rattle.fzn_domain.proofs.SetLemmas.{kept_within, is_true_at-negated, member_of_size, contains-least, contains-greatest, least_le}
use Rattle.fzn_domain.proofs.NarrowLemmas.{length-narrowed, set_of-narrowed, other_set-narrowed, length-denied}
use Rattle.fzn_values.specs.declared.term.Term.{Term}
use Rattle.fzn_values.specs.declared.term.Term.TheVariants.{Constant, Variable}
use Rattle.fzn_values.specs.Term.{IsTerm}
use Rattle.fzn_sets.specs.Terms.{MayBe, least_value, greatest_value}
use Rattle.fzn_sets.proofs.CallerLemmas.{nonempty_at}
use Rattle.fzn_trail.specs.Levels.{IsNarrower}
use Rattle.fzn_propagator.specs.Left.{IsLeft}

-- ---- sets of a trail

-- the present set of a variable has a value
pub some_value : (sets declared : List IntSet) (var : VarId) → IsVariable (length declared) var → IsNarrower sets declared → NoneEmpty sets → 0 < size (set_of sets var)
some_value sets declared var is narrower filled =
    let same = narrower.one_each in
    All-get_or (λ (s : IntSet). 0 < size s) sets (var.0 - 1) no_values (omega arith) filled

-- ---- values that a clause leaves

apart_of : (lit : Lit) (var : VarId) → var.0 - 1 ≢ lit.var.0 - 1 → lit.var ≡ var → ⊥
apart_of lit var apart same = apart (ap (λ (x : VarId). x.0 - 1) (sym same))

-- a value of a denied set is a declared one at which no literal of the clause is true
pub left_of_denied : (clause : List Lit) (declared : List IntSet) (var : VarId) (v : ℤ) → IsClauseOver (length declared) clause → contains (set_of (denied declared clause) var) v ≡ true → IsLeft declared clause (Variable var) v
left_of_denied [] declared var v over h = (h, λ k d below. absurd (omega arith))
left_of_denied (lit ∷ clause) declared var v over h =
    let is_var = All-head (λ (l : Lit). IsVariable (length declared) l.var) lit clause over in
    let rest_over : IsClauseOver (length (narrowed declared (negated lit))) clause = subst (λ (n : ℕ). IsClauseOver n clause) (sym (length-narrowed declared (negated lit))) (All-tail (λ (l : Lit). IsVariable (length declared) l.var) lit clause over) in
    let rest = left_of_denied clause (narrowed declared (negated lit)) var v rest_over h in
    elim (cases_eq (var.0 - 1) (lit.var.0 - 1)) [
      | inl same ↦
          let there : contains (kept (set_of declared lit.var) (negated lit)) v ≡ true =
          ap (λ (s : IntSet). contains s v) (sym (set_of-narrowed declared (negated lit) is_var))
          ∙ subst (λ (n : ℕ). contains (get_or (narrowed declared (negated lit)) n no_values) v ≡ true) same rest.0 in
          let parts = kept_within (set_of declared lit.var) (negated lit) v there in (
            subst (λ (n : ℕ). contains (get_or declared n no_values) v ≡ true) (sym same) parts.0,
            All-cons (λ (l : Lit). l.var ≡ var → is_true_at l v ≡ false) lit clause (λ e. not-true (is_true_at lit v) (sym (is_true_at-negated lit v) ∙ parts.1)) rest.1,
          )
      | inr apart ↦ (
        ap (λ (s : IntSet). contains s v) (sym (other_set-narrowed declared (negated lit) (var.0 - 1) apart)) ∙ rest.0,
        All-cons (λ (l : Lit). l.var ≡ var → is_true_at l v ≡ false) lit clause (λ e. absurd (apart_of lit var apart e)) rest.1,
      )
    ]

-- so is a value of a term on the denied sets
pub left_of_may : (clause : List Lit) (declared : List IntSet) (term : Term) (v : ℤ) → IsClauseOver (length declared) clause → MayBe (denied declared clause) term v → IsLeft declared clause term v
left_of_may clause declared (Constant k) v over may = sym may
left_of_may clause declared (Variable var) v over may = left_of_denied clause declared var v over may

All-front : {X : Type 0} (P : X → Type 0) (xs ys : List X) → All P (xs ++ ys) → All P xs
All-front P xs ys all = λ k d below. subst P (get_or_append_left xs ys d k below) (all k d (omega (arith, length-append xs ys)))

-- a longer clause leaves no more
pub left_of_more : (declared : List IntSet) (clause more : List Lit) (term : Term) (v : ℤ) → IsLeft declared (clause ++ more) term v → IsLeft declared clause term v
left_of_more declared clause more (Constant k) v left = left
left_of_more declared clause more (Variable var) v left = (left.0, All-front (λ (l : Lit). l.var ≡ var → is_true_at l v ≡ false) clause more left.1)

-- the last literal of a clause is false at each value that is left
pub last_fails : (declared : List IntSet) (clause : List Lit) (lit : Lit) (v : ℤ) → IsLeft declared (clause ++ lit ∷ []) (Variable lit.var) v → is_true_at lit v ≡ false
last_fails declared clause lit v left = All-contains (λ (l : Lit). l.var ≡ lit.var → is_true_at l v ≡ false) (clause ++ lit ∷ []) lit left.1 (Contains-push clause lit) refl

-- ---- a clause on the present sets

-- one more literal after those that are false
pub none_left : (sets : List IntSet) (clause : List Lit) (lit : Lit) (b : Bool) → possible_in sets clause ≡ [] → is_possible (set_of sets lit.var) lit ≡ b → possible_in sets (clause ++ lit ∷ []) ≡ cond b (lit ∷ []) []
none_left sets clause lit b none is =
    filter-append (λ (l : Lit). is_possible (set_of sets l.var) l) clause (lit ∷ [])
    ∙ ap (λ (xs : List Lit). xs ++ cond (is_possible (set_of sets lit.var) lit) (lit ∷ []) []) none
    ∙ ap (λ (x : Bool). cond x (lit ∷ []) []) is

-- ---- the ends of terms on denied sets

member_of_ends : (s : IntSet) → 0 < size s → (contains s (least s) ≡ true) × (contains s (greatest s) ≡ true)
member_of_ends s some = let m = member_of_size s some in (contains-least s m.0 m.1, contains-greatest s m.0 m.1)

-- either end is a member
pub one_end : (s : IntSet) (b : Bool) → 0 < size s → contains s (cond b (greatest s) (least s)) ≡ true
one_end s true some = (member_of_ends s some).1
one_end s false some = (member_of_ends s some).0

pub flat_cond : (b : Bool) (k : ℤ) → cond b k k ≡ k
flat_cond true k = refl
flat_cond false k = refl

-- the end of each term on the denied sets is a value that the clause leaves
pub end_left : (declared : List IntSet) (clause : List Lit) (term : Term) (b : Bool) → IsClauseOver (length declared) clause → IsTerm (length declared) term → is_some_empty (denied declared clause) ≡ false → IsLeft declared clause term (cond b (greatest_value (denied declared clause) term) (least_value (denied declared clause) term))
end_left declared clause (Constant k) b over fits none = flat_cond b k
end_left declared clause (Variable var) b over fits none =
    let some = nonempty_at (denied declared clause) (var.0 - 1) none (omega (arith, length-denied clause declared)) in
    left_of_denied clause declared var (cond b (greatest (set_of (denied declared clause) var)) (least (set_of (denied declared clause) var))) over (one_end (set_of (denied declared clause) var) b some)

-- the ends of a term stand in order on the denied sets
pub ends_ordered : (declared : List IntSet) (clause : List Lit) (term : Term) → IsTerm (length declared) term → is_some_empty (denied declared clause) ≡ false → least_value (denied declared clause) term ≤ℤ greatest_value (denied declared clause) term
ends_ordered declared clause (Constant k) fits none = omega (arith, ints)
ends_ordered declared clause (Variable var) fits none =
    let s = set_of (denied declared clause) var in
    let some = nonempty_at (denied declared clause) (var.0 - 1) none (omega (arith, length-denied clause declared)) in
    least_le s (greatest s) (one_end s true some)
