-- The rule `row`: on sets where it is met, no choice of one value from each set meets the row.
use Rattle.std.proofs.Common.{◌^◌, ◌≡◌, ◌↔◌, ℕ, zero, suc, ◌+◌, ◌-◌, ◌*◌, unsigned_abs, ◌<◌, ◌≤◌, true, IsTrue, int_lt, List, [], ◌∷◌, ◌++◌, length, get_or, take, refl, sym, ap, ◌∙◌, subst, inl, inr, arith, ℤ, pos, ◌+ℤ◌, ◌≤ℤ◌, ◌<ℤ◌, Option, None, Some, IsSome, unwrap_or, All}
use Rattle.std.proofs.lemmas.Int.{ints}
use Rattle.std.proofs.lemmas.List.{take_more}
use Rattle.std.proofs.lemmas.List.Elements.{All-head, All-tail}
use Rattle.fzn_domain.specs.IntSet.{IntSet, contains}
use Rattle.fzn_domain.specs.Narrow.{IsWithin, IsVariable, set_of, value_of}
use Rattle.fzn_meaning.specs.declared.row.VariablePart.{VariablePart}
use Rattle.fzn_meaning.specs.declared.row.Part.{Part}
use Rattle.fzn_meaning.specs.declared.row.Part.TheVariants.{Variable, Table}
use Rattle.fzn_meaning.specs.declared.row.Row.{Row}
use Rattle.fzn_meaning.specs.declared.constraint.Constraint.{Constraint}
use Rattle.fzn_meaning.specs.declared.constraint.Constraint.TheVariants as kind
use Rattle.fzn_meaning.specs.Meaning.{Meets, IsWellFormedConstraint}
use Rattle.fzn_meaning.specs.Separable.{weight_of, total_weight, IsPart, RowHolds}
use Rattle.fzn_rules.specs.Separable.{IsLeastOf, IsWeightIn, IsLeastWeight, IsLeastTotal, IsSeparableMet, IsRowMet}
use Rattle.fzn_rules.proofs.TableWeightLemmas.{table_weighs}

-- ---- least totals

pub least_total-push : (sets : List IntSet) (parts : List Part) (part : Part) (total least : ℤ) → IsLeastTotal sets parts total → IsLeastWeight sets part (Some least) → IsLeastTotal sets (parts ++ part ∷ []) (total +ℤ least)
least_total-push sets [] part total least so_far here = (least, pos 0, here, refl, omega (arith, ints))
least_total-push sets (p ∷ parts) part total least (first, rest, first_is, rest_is, is) here =
    (first, rest +ℤ least, first_is, least_total-push sets parts part rest least rest_is here, omega (arith, ints))

pub least_total-more : (sets : List IntSet) (parts : List Part) (i : ℕ) (part : Part) (total least after : ℤ) → i < length parts → part ≡ get_or parts i part → IsLeastTotal sets (take i parts) total → IsLeastWeight sets part (Some least) → after ≡ total +ℤ least → IsLeastTotal sets (take (i + 1) parts) after
least_total-more sets parts i part total least after inside is so_far here sum =
    let more : take (i + 1) parts ≡ take i parts ++ part ∷ [] = take_more parts i part inside ∙ ap (λ (p : Part). take i parts ++ p ∷ []) (sym is) in
    subst (λ (x : ℤ). IsLeastTotal sets (take (i + 1) parts) x) (sym sum) (subst (λ (ps : List Part). IsLeastTotal sets ps (total +ℤ least)) (sym more) (least_total-push sets (take i parts) part total least so_far here))

le_both : (a b : ℤ) → a ≤ℤ b → b ≤ℤ a → a ≡ b
le_both a b p q = omega (arith, ints)

one_least : (P : ℤ → Type 0) (a b : ℤ) → IsLeastOf P (Some a) → IsLeastOf P (Some b) → a ≡ b
one_least P a b p q = le_both a b (p.1 b q.0) (q.1 a p.0)

pub one_total : (sets : List IntSet) (parts : List Part) (a b : ℤ) → IsLeastTotal sets parts a → IsLeastTotal sets parts b → a ≡ b
one_total sets [] a b p q = p ∙ sym q
one_total sets (part ∷ parts) a b (least, rest, least_is, rest_is, is) (least', rest', least_is', rest_is', is') =
    let first = one_least _ least least' least_is least_is' in
    let others = one_total sets parts rest rest' rest_is rest_is' in
    omega (arith, ints)

not_both : (P : ℤ → Type 0) (a : ℤ) → IsLeastOf P (Some a) → IsLeastOf P None → ⊥
not_both P a p none = none a p.0

-- where there is a least total, no part is barred at all values
pub no_barred : (sets : List IntSet) (parts : List Part) (total : ℤ) → IsLeastTotal sets parts total → (k : ℕ) (part : Part) → k < length parts → get_or parts k part ≡ part → IsLeastWeight sets part None → ⊥
no_barred sets [] total so_far k part inside is barred = omega arith
no_barred sets (p ∷ parts) total (least, rest, least_is, rest_is, sum) zero part inside is barred =
    not_both _ least (subst (λ (p : Part). IsLeastWeight sets p (Some least)) is least_is) barred
no_barred sets (p ∷ parts) total (least, rest, least_is, rest_is, sum) (suc k) part inside is barred = no_barred sets parts rest rest_is k part (omega arith) is barred

-- ---- soundness

module _ (sets : List IntSet) (values : List ℤ) (within : IsWithin sets values) where
  inside : (part : VariablePart) → IsVariable (length sets) part.var → contains (set_of sets part.var) (value_of values part.var) ≡ true
  inside part var = within.inside (part.var.0 - 1) (omega arith)

  weighs_in : (part : Part) (w : ℤ) → IsPart (length sets) part → weight_of values part ≡ Some w → IsWeightIn sets part w
  weighs_in (Variable part) w formed is = (value_of values part.var, inside part formed.variable, is)
  weighs_in (Table table) w formed is = table_weighs sets values table w within formed is

  none_weighs : (part : Part) (weight : Option ℤ) → IsPart (length sets) part → IsLeastWeight sets part None → weight_of values part ≡ weight → IsSome weight → ⊥
  none_weighs part None formed barred is some = absurd (cc)
  none_weighs part (Some w) formed barred is some = barred w (weighs_in part w formed is)

  least_weighs : (part : Part) (least : ℤ) (weight : Option ℤ) → IsPart (length sets) part → IsLeastWeight sets part (Some least) → weight_of values part ≡ weight → IsSome weight → least ≤ℤ unwrap_or weight (pos 0)
  least_weighs part least None formed is weight some = absurd (cc)
  least_weighs part least (Some w) formed is weight some = is.1 w (weighs_in part w formed weight)

  total_least : (parts : List Part) (total : ℤ) → All (IsPart (length sets)) parts → All (λ (part : Part). IsSome (weight_of values part)) parts → IsLeastTotal sets parts total → total ≤ℤ total_weight values parts
  unfolding total_weight
  total_least [] total formed unbarred is = omega (arith, ints)
  total_least (part ∷ parts) total formed unbarred (least, rest, least_is, rest_is, sum) =
      let here = All-head (IsPart (length sets)) part parts formed in
      let first = least_weighs part least (weight_of values part) here least_is refl (All-head (λ (part : Part). IsSome (weight_of values part)) part parts unbarred) in
      let others = total_least parts rest (All-tail (IsPart (length sets)) part parts formed) (All-tail (λ (part : Part). IsSome (weight_of values part)) part parts unbarred) rest_is in
      omega (arith, ints)

  separable_sound : (row : Row) → All (IsPart (length sets)) row.parts → IsSeparableMet row sets → RowHolds row values → ⊥
  separable_sound row formed met holds = elim met [
    | inl barred ↦
        let k = barred.0 in
        let part = barred.1 in
        let formed_there = subst (IsPart (length sets)) barred.3 (formed k part barred.2) in
        let unbarred = subst (λ (p : Part). IsSome (weight_of values p)) barred.3 (holds.none_barred k part barred.2) in
        none_weighs part (weight_of values part) formed_there barred.4 refl unbarred
    | inr above ↦
        let least = total_least row.parts above.0 formed holds.none_barred above.1 in
        omega (arith, ints, least, above.2, holds.most)
  ]

pub row_sound : (constraint : Constraint) (sets : List IntSet) (values : List ℤ) → IsWellFormedConstraint (length sets) constraint → IsRowMet constraint sets → IsWithin sets values → Meets constraint values → ⊥
unfolding IsWellFormedConstraint Meets
row_sound (kind.Row row) sets values formed met within holds = separable_sound sets values within row formed.parts met holds
row_sound _ sets values formed met within holds = met

-- ---- the test

lt_test : (a b bound total : ℤ) → a ≡ bound → b ≡ total → IsTrue (int_lt a b) ↔ (bound <ℤ total)
lt_test a b bound total p q = (λ h. grind (arith, ints), λ h. grind (arith, ints))

pub above_test : (sets : List IntSet) (row : Row) (cast total : ℤ) → cast ≡ row.bound → IsLeastTotal sets row.parts total → IsTrue (int_lt cast total) ↔ IsSeparableMet row sets
above_test sets row cast total is whole =
    let test = lt_test cast total row.bound total is refl in (
      λ yes. inr (total, whole, test.0 yes),
      λ met. elim met [
        | inl barred ↦ absurd (no_barred sets row.parts total whole barred.0 barred.1 barred.2 barred.3 barred.4)
        | inr above ↦ test.1 (subst (λ (x : ℤ). row.bound <ℤ x) (one_total sets row.parts above.0 total above.1 whole) above.2)
      ],
    )

pub bounded_more : (i : ℕ) (before more after : ℤ) → unsigned_abs before ≤ i * 9223372037000000000000000000000 → unsigned_abs more ≤ 1000000000000 * 2 ^ 63 + 1000000000000000000 → after ≡ before +ℤ more → unsigned_abs after ≤ (i + 1) * 9223372037000000000000000000000
bounded_more i before more after so_far here is =
    let both : unsigned_abs (before +ℤ more) ≤ unsigned_abs before + unsigned_abs more = grind (arith, ints) in
    let same = ap unsigned_abs is in
    omega arith
