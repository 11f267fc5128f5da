-- What callers may cite: accepted clauses are true, which sets are empty after a narrowing, and what the first values of a list and the first
-- rows of a table weigh at least.
use Rattle.std.proofs.Common.{◌≡◌, ℕ, ◌-◌, ◌<◌, List, [], ◌∷◌, true, false, length, get_or, set, sym, ap, subst, ◌∙◌, inl, inr, arith, ℤ, nat_eq}
use Rattle.std.specs.List.{Any}
use Rattle.std.proofs.lemmas.Bool.{cases_Bool, cases_eq, true≢false, eqb-true, eq-eqb, ne_eqb}
use Rattle.std.proofs.lemmas.List.{get_or_default, get_or-set_same}
use Rattle.std.proofs.lemmas.List.Folds.{Any-from_list_any, list_any-from_Any, list_any_none}
use Rattle.fzn_domain.specs.declared.literal.Lit.{Lit}
use Rattle.fzn_domain.specs.Literal.{negated}
use Rattle.fzn_domain.specs.IntSet.{IntSet, size, no_values, kept}
use Rattle.fzn_domain.specs.Narrow.{IsVariable, IsClauseOver, IsWithin, set_of, is_clause_true, narrowed, denied, is_some_empty}
use Rattle.fzn_domain.proofs.SetLemmas.{size-kept_le}
use Rattle.fzn_domain.proofs.NarrowLemmas.{IsWithin-denied, none_empty, length-narrowed, length-denied, other_set-narrowed}
use Rattle.fzn_meaning.specs.declared.constraint.Constraint.{Constraint}
use Rattle.fzn_meaning.specs.Meaning.{Meets, IsWellFormedConstraint, HasBooleanValues}
use Rattle.fzn_rules.specs.declared.rule.Rule.{Rule}
use Rattle.fzn_rules.specs.Rules.{IsAcceptedBy}
use Rattle.fzn_rules.proofs.RuleSound.{rule_sound}
use Rattle.fzn_sets.proofs.CallerLemmas.{nonempty_at}
pub use Rattle.fzn_rules.proofs.LeastLemmas.{IsWeightBefore, before-none, before-skip, before-more, before-all, least-down, least-up, least-plain, least-listed}
pub use Rattle.fzn_rules.proofs.TableWeightLemmas.{IsRowWeightBefore, rows-none, rows-more, rows-all}

-- A clause that is accepted from a constraint is true at each assignment within the declared sets that meets the constraint.
pub accepted_by_sound : (constraint : Constraint) (rule : Rule) (declared : List IntSet) (clause : List Lit) → IsWellFormedConstraint (length declared) constraint → IsClauseOver (length declared) clause → IsAcceptedBy constraint rule declared clause → (assignment : List ℤ) → IsWithin declared assignment → HasBooleanValues assignment constraint → Meets constraint assignment → is_clause_true assignment clause ≡ true
accepted_by_sound constraint rule declared clause formed over accepted assignment within bits met = elim (cases_Bool (is_clause_true assignment clause)) [
  | inl holds ↦ holds
  | inr fails ↦
      let inside = IsWithin-denied assignment clause declared over within fails in
      elim accepted [
        | inl empty ↦ absurd (true≢false (sym empty ∙ none_empty (denied declared clause) assignment inside))
        | inr refuted ↦ absurd (rule_sound constraint (denied declared clause) rule assignment (subst (λ (n : ℕ). IsWellFormedConstraint n constraint) (sym (length-denied clause declared)) formed) refuted inside bits met)
      ]
]

-- ---- which sets are empty

-- an empty set at some place
pub empty_at : (sets : List IntSet) (k : ℕ) → k < length sets → size (get_or sets k no_values) ≡ 0 → is_some_empty sets ≡ true
empty_at sets k below none =
    list_any-from_Any (λ (s : IntSet). nat_eq (size s) 0) sets
    (k, get_or sets k no_values, below, get_or_default sets k _ no_values below, eq-eqb (size (get_or sets k no_values)) 0 none)

-- the narrowed set has no value left
pub empty-narrowed : (sets : List IntSet) (lit : Lit) → IsVariable (length sets) lit.var → size (set_of (narrowed sets lit) lit.var) ≡ 0 → is_some_empty (narrowed sets lit) ≡ true
empty-narrowed sets lit var none = empty_at (narrowed sets lit) (lit.var.0 - 1) (omega (arith, length-narrowed sets lit)) none

-- the narrowed set has a value left, as the others have
pub none_empty-narrowed : (sets : List IntSet) (lit : Lit) → IsVariable (length sets) lit.var → is_some_empty sets ≡ false → 0 < size (set_of (narrowed sets lit) lit.var) → is_some_empty (narrowed sets lit) ≡ false
none_empty-narrowed sets lit var none left = list_any_none (λ (s : IntSet). nat_eq (size s) 0) (narrowed sets lit) (λ k d below.
    let in_sets : k < length sets = omega (arith, length-narrowed sets lit) in
    let some : 0 < size (get_or (narrowed sets lit) k no_values) = elim (cases_eq k (lit.var.0 - 1)) [
      | inl same ↦ subst (λ (n : ℕ). 0 < size (get_or (narrowed sets lit) n no_values)) (sym same) left
      | inr apart ↦ subst (λ (s : IntSet). 0 < size s) (sym (other_set-narrowed sets lit k apart)) (nonempty_at sets k none in_sets)
    ] in
    ne_eqb (size (get_or (narrowed sets lit) k d)) 0 (λ (e : size (get_or (narrowed sets lit) k d) ≡ 0).
    let here = ap size (get_or_default (narrowed sets lit) k no_values d below) in
    omega arith))

narrowed_at : (sets : List IntSet) (lit : Lit) (k : ℕ) → k ≡ lit.var.0 - 1 → k < length sets → get_or (narrowed sets lit) k no_values ≡ kept (set_of sets lit.var) lit
unfolding narrowed
narrowed_at sets lit k same below = ap (λ (n : ℕ). get_or (set sets (lit.var.0 - 1) (kept (set_of sets lit.var) lit)) n no_values) same ∙ get_or-set_same sets (lit.var.0 - 1) _ no_values (omega arith)

-- a set that is empty stays so
pub still_empty-narrowed : (sets : List IntSet) (lit : Lit) → is_some_empty sets ≡ true → is_some_empty (narrowed sets lit) ≡ true
still_empty-narrowed sets lit empty = still (Any-from_list_any (λ (s : IntSet). nat_eq (size s) 0) sets empty)
  where
    still : Any (λ (s : IntSet). nat_eq (size s) 0 ≡ true) sets → is_some_empty (narrowed sets lit) ≡ true
    still (k, s, below, at, zero_size) =
        let in_sets : k < length (narrowed sets lit) = omega (arith, length-narrowed sets lit) in
        let none : size (get_or sets k no_values) ≡ 0 = ap size (get_or_default sets k no_values s below ∙ at) ∙ eqb-true (size s) 0 zero_size in
        empty_at (narrowed sets lit) k in_sets (elim (cases_eq k (lit.var.0 - 1)) [
          | inl same ↦
              let var : set_of sets lit.var ≡ get_or sets k no_values = ap (λ (n : ℕ). get_or sets n no_values) (sym same) in
              let there : get_or (narrowed sets lit) k no_values ≡ kept (set_of sets lit.var) lit = narrowed_at sets lit k same below in
              let fewer = size-kept_le (set_of sets lit.var) lit in
              let sizes = ap size var in
              let sizes_there = ap size there in
              omega arith
          | inr apart ↦ ap size (other_set-narrowed sets lit k apart) ∙ none
        ])

pub still_empty-denied : (clause : List Lit) (sets : List IntSet) → is_some_empty sets ≡ true → is_some_empty (denied sets clause) ≡ true
still_empty-denied [] sets empty = empty
still_empty-denied (lit ∷ clause) sets empty = still_empty-denied clause (narrowed sets (negated lit)) (still_empty-narrowed sets (negated lit) empty)
