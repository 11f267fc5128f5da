-- Multiples of constraints: values that meet the constraints and the row before meet the row after.
use Rattle.std.proofs.Common.{◌≡◌, ℕ, Bool, true, false, cond, ◌&&◌, List, [], ◌∷◌, map, refl, ap, subst, arith, ℤ, pos, ◌+ℤ◌, ◌-ℤ◌, ◌*ℤ◌, ◌≤ℤ◌, Option, None, Some, IfSome, is_none, Result, Ok, Err, All}
use Rattle.std.specs.Option.{option_map_or}
use Rattle.std.proofs.lemmas.Int.{ints}
use Rattle.std.proofs.lemmas.List.Elements.{All-head, All-tail, All-cons, All-nil}
use Rattle.fzn_domain.specs.IntSet.{IntSet}
use Rattle.fzn_domain.specs.Narrow.{IsWithin}
use Rattle.fzn_values.specs.declared.term.Term.{Term}
use Rattle.fzn_values.specs.declared.term.Term.TheVariants.{Constant, Variable}
use Rattle.fzn_values.specs.declared.term.Place.{Place}
use Rattle.fzn_meaning.specs.declared.relation.Comparison.{Comparison}
use Rattle.fzn_meaning.specs.declared.relation.Comparison.TheVariants.{AtMost, Equal, NotEqual}
use Rattle.fzn_meaning.specs.declared.constraint.Constraint.{Constraint}
use Rattle.fzn_values.specs.Term.{term_value, product_at, sum_at}
use Rattle.fzn_meaning.specs.Comparisons.{IsSwitched}
use Rattle.fzn_meaning.specs.Linear.{IsLinear}
use Rattle.fzn_meaning.specs.Meaning.{Meets, HasBooleanSets, switch_value}
use Rattle.fzn_meaning.proofs.CallerLemmas.{bits-choice}
use Rattle.fzn_builtin_rules.specs.Form.{Form, form_of, FormHolds}
use Rattle.fzn_builtin_rules.proofs.CallerLemmas.{total_by-cons}
use Rattle.fzn_builtin_rules.proofs.FormLemmas.{form_holds}
use Rattle.fzn_cited.specs.declared.multiple.Multiple.{Multiple}
use Rattle.fzn_cited.specs.declared.fault.DeriveFault.{DeriveFault}
use Rattle.fzn_cited.specs.declared.fault.DeriveFault.TheVariants.{NoSuchConstraint, NotDerived}
use Rattle.fzn_cited.specs.Cited.{constraint_at}
use Rattle.fzn_cited.proofs.CitedLemmas.{each_at}
use Rattle.fzn_meaning.specs.Separable.{RowHolds}
use Rattle.fzn_dependence.proofs.IntLemmas.{times_plus}
use Rattle.fzn_weights.specs.Multiples.{may_multiply, is_usable}
use Rattle.fzn_row.specs.Draft.{Draft, row_of, with_bound, in_turn}
use Rattle.fzn_row.specs.Multiples.{term_added, place_added, form_added, multiple_added}
use Rattle.fzn_row.proofs.IntLemmas.{times_le, times_times}
use Rattle.fzn_row.proofs.DraftSound.{Exceeds, exceeds-same, exceeds-holds, holds-exceeds, bound-exceeds, coefficient-exceeds, no_error, then-both, turn-keeps}

-- ---- places

module _ (values : List ℤ) where
  term-exceeds : (amount : ℤ) (term : Term) (draft after : Draft) (excess : ℤ) → Exceeds values draft excess → term_added amount draft term ≡ Ok after → Exceeds values after (excess +ℤ amount *ℤ term_value values term)
  term-exceeds amount (Constant k) draft after excess h is =
      exceeds-same values after _ _ (omega (arith, ints)) (bound-exceeds values (draft.bound -ℤ amount *ℤ k) draft after excess h is)
  term-exceeds amount (Variable var) draft after excess h is = coefficient-exceeds values var amount draft after excess h is

  pub places-exceed : (multiplier : ℤ) (places : List Place) (draft after : Draft) (excess : ℤ) → Exceeds values draft excess → in_turn (place_added multiplier) draft places ≡ Ok after → Exceeds values after (excess +ℤ multiplier *ℤ sum_at values places)
  places-exceed multiplier [] draft after excess h is =
      exceeds-same values after _ _ (none excess multiplier) (subst (λ (d : Draft). Exceeds values d excess) (same draft after is) h)
    where
      same : (a b : Draft) → ◌≡◌ {A = Result Draft DeriveFault} (Ok a) (Ok b) → a ≡ b
      same a b e = cc

      none : (e m : ℤ) → e ≡ e +ℤ m *ℤ pos 0
      none e m = omega (arith, ints)
  places-exceed multiplier (place ∷ places) draft after excess h is =
      let parts = then-both (place_added multiplier draft place) (λ next. in_turn (place_added multiplier) next places) after is in
      let first = term-exceeds (place.coefficient *ℤ multiplier) place.term draft parts.0 excess h parts.1 in
      let rest = places-exceed multiplier places parts.0 after _ first parts.2 in
      exceeds-same values after _ _ (together excess multiplier place.coefficient (term_value values place.term) (sum_at values places) (sum_at values (place ∷ places)) (total_by-cons (product_at values) place places)) rest
    where
      together : (e m c t rest sum : ℤ) → sum ≡ c *ℤ t +ℤ rest → (e +ℤ (c *ℤ m) *ℤ t) +ℤ m *ℤ rest ≡ e +ℤ m *ℤ sum
      together e m c t rest sum is =
          let a = times_times m c t in
          let turned : c *ℤ m ≡ m *ℤ c = omega (arith, ints) in
          let b = ap (λ (x : ℤ). x *ℤ t) turned in
          let d = times_plus m (c *ℤ t) rest in
          let f = ap (λ (x : ℤ). m *ℤ x) is in
          omega (arith, ints)

  -- ---- a form

  form-exceeds : (multiplier : ℤ) (found : Form) (draft after : Draft) (excess : ℤ) → Exceeds values draft excess → form_added multiplier draft found ≡ Ok after → Exceeds values after (excess +ℤ (multiplier *ℤ sum_at values found.places -ℤ multiplier *ℤ found.bound))
  unfolding form_added
  form-exceeds multiplier found draft after excess h is =
      let parts = then-both (in_turn (place_added multiplier) draft found.places) (λ next. with_bound (next.bound +ℤ found.bound *ℤ multiplier) next) after is in
      let places = places-exceed multiplier found.places draft parts.0 excess h parts.1 in
      exceeds-same values after _ _ (omega (arith, ints)) (bound-exceeds values (parts.0.bound +ℤ found.bound *ℤ multiplier) parts.0 after _ places parts.2)

multiplied : (comparison : Comparison) (k sum bound : ℤ) → may_multiply comparison k ≡ true → IsLinear comparison sum bound → (k *ℤ sum) ≤ℤ (k *ℤ bound)
multiplied AtMost k sum bound may holds = times_le k sum bound (grind (arith, ints)) holds
multiplied Equal k sum bound may holds = let e = ap (λ (x : ℤ). k *ℤ x) holds in omega (arith, ints)
multiplied NotEqual k sum bound may holds = absurd (cc)

plain : (values : List ℤ) (switch : Option Term) (P : Type 0) → is_none switch ≡ true → IsSwitched (switch_value values switch) P → P
plain values None P none holds = holds
plain values (Some s) P none holds = absurd (cc)

both : (a b c : Bool) → (a && b && c) ≡ true → (a ≡ true) × (b ≡ true)
both true true c h = (refl, refl)
both true false c h = absurd (cc)
both false b c h = absurd (cc)

module _ (values : List ℤ) (multiplier : ℤ) where
  form-sound : (found : Form) (draft after : Draft) (test : Bool) → is_usable multiplier found ≡ test → FormHolds found values → RowHolds (row_of draft) values
      → cond test (form_added multiplier draft found) (Err NotDerived) ≡ Ok after → RowHolds (row_of after) values
  form-sound found draft after true usable holds before is =
      let parts = both _ _ _ usable in
      let linear = plain values found.switch (IsLinear found.comparison (sum_at values found.places) found.bound) parts.0 holds in
      let most = multiplied found.comparison multiplier (sum_at values found.places) found.bound parts.1 linear in
      let had = holds-exceeds values draft before in
      let has = form-exceeds values multiplier found draft after had.0 had.2 is in
      exceeds-holds values after _ has (no_more had.0 _ _ had.1 most)
    where
      no_more : (e a b : ℤ) → e ≤ℤ pos 0 → a ≤ℤ b → (e +ℤ (a -ℤ b)) ≤ℤ pos 0
      no_more e a b p q = omega (arith, ints)
  form-sound found draft after false usable holds before is = absurd (no_error NotDerived after is)

  maybe_form-sound : (o : Option Form) (draft after : Draft) → IfSome o (λ (found : Form). FormHolds found values) → RowHolds (row_of draft) values
      → option_map_or (λ (found : Form). cond (is_usable multiplier found) (form_added multiplier draft found) (Err NotDerived)) o (Err NotDerived) ≡ Ok after → RowHolds (row_of after) values
  maybe_form-sound None draft after holds before is = absurd (no_error NotDerived after is)
  maybe_form-sound (Some found) draft after holds before is = form-sound found draft after (is_usable multiplier found) refl holds before is

  constraint-sound : (declared : List IntSet) (o : Option Constraint) (draft after : Draft) → IsWithin declared values → IfSome o (HasBooleanSets declared) → IfSome o (λ (c : Constraint). Meets c values) → RowHolds (row_of draft) values
      → option_map_or (λ (c : Constraint). option_map_or (λ (found : Form). cond (is_usable multiplier found) (form_added multiplier draft found) (Err NotDerived)) (form_of c) (Err NotDerived)) o (Err NoSuchConstraint) ≡ Ok after
      → RowHolds (row_of after) values
  constraint-sound declared None draft after within bits met before is = absurd (no_error NoSuchConstraint after is)
  constraint-sound declared (Some c) draft after within bits met before is = maybe_form-sound (form_of c) draft after (form_holds c values (bits-choice declared values c within bits) met) before is

-- ---- all multiples

module _ (given : List Constraint) (declared : List IntSet) (values : List ℤ) (within : IsWithin declared values) (booleans : All (HasBooleanSets declared) given) where
  abbrev IsMetAt : ℕ → Type 0
  IsMetAt id = IfSome (constraint_at given id) (λ (c : Constraint). Meets c values)

  multiple-sound : (multiple : Multiple) (draft after : Draft) → IsMetAt multiple.constraint → RowHolds (row_of draft) values → multiple_added given draft multiple ≡ Ok after → RowHolds (row_of after) values
  multiple-sound multiple draft after met before is =
      constraint-sound values multiple.multiplier declared (constraint_at given multiple.constraint) draft after within (each_at (HasBooleanSets declared) given multiple.constraint booleans) met before is

  each_kept : (multiples : List Multiple) → All IsMetAt (map (λ multiple. multiple.constraint) multiples) → All (λ multiple. (before next : Draft) → RowHolds (row_of before) values → multiple_added given before multiple ≡ Ok next → RowHolds (row_of next) values) multiples
  each_kept [] met = All-nil (λ (multiple : Multiple). (before next : Draft) → RowHolds (row_of before) values → multiple_added given before multiple ≡ Ok next → RowHolds (row_of next) values)
  each_kept (m ∷ multiples) met =
      All-cons (λ (multiple : Multiple). (before next : Draft) → RowHolds (row_of before) values → multiple_added given before multiple ≡ Ok next → RowHolds (row_of next) values) m multiples
      (λ before next holds is. multiple-sound m before next (All-head IsMetAt m.constraint (map (λ multiple. multiple.constraint) multiples) met) holds is)
      (each_kept multiples (All-tail IsMetAt m.constraint (map (λ multiple. multiple.constraint) multiples) met))

  pub multiples-sound : (multiples : List Multiple) (draft after : Draft) → All IsMetAt (map (λ multiple. multiple.constraint) multiples) → RowHolds (row_of draft) values → in_turn (multiple_added given) draft multiples ≡ Ok after → RowHolds (row_of after) values
  multiples-sound multiples draft after met before is = turn-keeps (multiple_added given) (λ d. RowHolds (row_of d) values) multiples draft after (each_kept multiples met) before is
