-- The rule `rows` of the globals: on sets where it is met, no choice of one value from each set meets the constraint.
use Rattle.std.proofs.Common.{◌≡◌, ℕ, ◌+◌, ◌*◌, ◌≤◌, List, length, get_or, drop, sym, ap, ◌∙◌, subst, inl, inr, arith, ℤ, pos, ◌≤ℤ◌}
use Rattle.std.specs.List.{All, Any}
use Rattle.std.proofs.lemmas.Int.{ints}
use Rattle.std.proofs.lemmas.List.{get_or_default, get_or-take, get_or-drop}
use Rattle.std.proofs.Math.ListN.{get_or-map}
use Rattle.fzn_domain.specs.IntSet.{IntSet}
use Rattle.fzn_domain.specs.Narrow.{IsWithin}
use Rattle.fzn_values.specs.declared.term.Term.{Term}
use Rattle.fzn_values.specs.declared.term.Term.TheVariants.{Constant}
use Rattle.fzn_meaning.specs.declared.constraint.Constraint.{Constraint}
use Rattle.fzn_meaning.specs.declared.constraint.Constraint.TheVariants.{Table, Cumulative, Circuit, Inverse}
use Rattle.fzn_values.specs.Entries.{IsIndex}
use Rattle.fzn_values.specs.Table.{IsTable}
use Rattle.fzn_values.specs.Cumulative.{NoneNegative}
use Rattle.fzn_values.specs.Term.{term_value, values_of, IsTerm}
use Rattle.fzn_meaning.specs.Meaning.{Meets, IsWellFormedConstraint}
use Rattle.fzn_rules.specs.GlobalRows.{AreRowsOut, HasNoIndex, IsBelowZero, IsGlobalRowsMet}
use Rattle.fzn_sets.proofs.CallerLemmas.{MayBe-term_value, length-values_of, term_between}

-- the value at a place is that of the term there
value_at : (values : List ℤ) (terms : List Term) (k : ℕ) → get_or (values_of values terms) k (pos 0) ≡ term_value values (get_or terms k (Constant (pos 0)))
value_at values terms k = get_or-map (term_value values) terms k (Constant (pos 0))

table_sound : (sets : List IntSet) (values : List ℤ) (places : List Term) (rows : List ℤ) → All (IsTerm (length sets)) places → AreRowsOut sets places rows → IsWithin sets values → IsTable (values_of values places) rows → ⊥
table_sound sets values places rows terms met within (r, whole, row) =
    let count : length (values_of values places) ≡ length places = length-values_of values places in
    let out = met r (subst (λ n. r * n + n ≤ length rows) count whole) in
    let at : get_or rows (r * length places + out.0) (pos 0) ≡ term_value values (get_or places out.0 (Constant (pos 0))) =
    sym (get_or-drop (r * length places) rows out.0 (pos 0))
    ∙ sym (get_or-take (length places) (drop (r * length places) rows) out.0 (pos 0) out.1)
    ∙ ap (λ xs. get_or xs out.0 (pos 0)) (rw count at row)
    ∙ value_at values places out.0 in
    out.2 (rw at (MayBe-term_value sets values (get_or places out.0 (Constant (pos 0))) within (terms out.0 (Constant (pos 0)) out.1)))

no_index_sound : (sets : List IntSet) (values : List ℤ) (terms : List Term) → All (IsTerm (length sets)) terms → Any (HasNoIndex sets (length terms)) terms → IsWithin sets values → All (IsIndex (length (values_of values terms))) (values_of values terms) → ⊥
no_index_sound sets values terms are_terms (k, term, below, is, none) within indices =
    let count : length (values_of values terms) ≡ length terms = length-values_of values terms in
    let here : get_or terms k (Constant (pos 0)) ≡ term = get_or_default terms k (Constant (pos 0)) term below ∙ is in
    let value : get_or (values_of values terms) k (pos 0) ≡ term_value values term = value_at values terms k ∙ ap (term_value values) here in
    let index : IsIndex (length terms) (term_value values term) = subst (λ x. IsIndex (length terms) x) value (subst (λ n. IsIndex n (get_or (values_of values terms) k (pos 0))) count (indices k (pos 0) (omega arith))) in
    none (term_value values term) index (MayBe-term_value sets values term within (subst (IsTerm (length sets)) is (are_terms k term below)))

below_zero_sound : (sets : List IntSet) (values : List ℤ) (term : Term) → IsBelowZero sets term → IsWithin sets values → pos 0 ≤ℤ term_value values term → ⊥
below_zero_sound sets values term below within not_negative =
    let between = term_between sets values term within in
    omega (arith, ints)

some_below_zero_sound : (sets : List IntSet) (values : List ℤ) (terms : List Term) → Any (IsBelowZero sets) terms → IsWithin sets values → NoneNegative (values_of values terms) → ⊥
some_below_zero_sound sets values terms (k, term, below, is, negative) within none =
    let count : length (values_of values terms) ≡ length terms = length-values_of values terms in
    let here : get_or terms k (Constant (pos 0)) ≡ term = get_or_default terms k (Constant (pos 0)) term below ∙ is in
    let value : get_or (values_of values terms) k (pos 0) ≡ term_value values term = value_at values terms k ∙ ap (term_value values) here in
    below_zero_sound sets values term negative within (subst (λ x. pos 0 ≤ℤ x) value (none k (pos 0) (omega arith)))

pub global_rows_sound : (constraint : Constraint) (sets : List IntSet) (values : List ℤ) → IsWellFormedConstraint (length sets) constraint → IsGlobalRowsMet constraint sets → IsWithin sets values → Meets constraint values → ⊥
unfolding IsGlobalRowsMet IsWellFormedConstraint Meets
global_rows_sound (Table places rows) sets values formed met within meets = table_sound sets values places rows formed.0.0 met within meets
global_rows_sound (Circuit successors) sets values formed met within meets = no_index_sound sets values successors formed.0 met within meets.places
global_rows_sound (Inverse forward backward) sets values formed met within meets = elim met [
  | inl none ↦ no_index_sound sets values forward formed.0.0 none within meets.forward_places
  | inr none ↦ no_index_sound sets values backward formed.1.0 none within meets.backward_places
]
global_rows_sound (Cumulative starts durations uses capacity) sets values formed met within meets = elim met [
  | inl negative ↦ some_below_zero_sound sets values durations negative within meets.durations_not_negative
  | inr other ↦ elim other [
    | inl negative ↦ some_below_zero_sound sets values uses negative within meets.uses_not_negative
    | inr negative ↦ below_zero_sound sets values capacity negative within meets.capacity_not_negative
  ]
]
global_rows_sound _ sets values formed met within meets = met
