-- Each part has a least weight on sets of which none is empty, or none.
use Rattle.std.proofs.Common.{◌≡◌, ◌⊎◌, ℕ, zero, suc, ◌+◌, ◌*◌, ◌<◌, List, false, length, get_or, refl, sym, ◌∙◌, subst, inl, inr, arith, ℤ, pos, ◌+ℤ◌, ◌*ℤ◌, ◌≤ℤ◌, ◌<ℤ◌, Option, None, Some}
use Rattle.std.specs.Ordering.{int_eq}
use Rattle.std.proofs.lemmas.Int.{ints}
use Rattle.std.proofs.lemmas.Bool.{false≢true, cases_lt, cases_Bool}
use Rattle.std.proofs.lemmas.Bool.Decides.{Decides-int_eq}
use Rattle.fzn_domain.specs.IntSet.{IntSet, contains, size, least, greatest}
use Rattle.fzn_domain.specs.Narrow.{set_of, is_some_empty}
use Rattle.fzn_domain.proofs.SetLemmas.{member_of_size, contains-least, least_le, contains-greatest, le_greatest}
use Rattle.fzn_values.specs.declared.term.Term.{Term}
use Rattle.fzn_values.specs.declared.term.Term.TheVariants.{Constant, Variable}
use Rattle.fzn_meaning.specs.declared.row.Listed.{Listed}
use Rattle.fzn_meaning.specs.declared.row.VariablePart.{VariablePart}
use Rattle.fzn_meaning.specs.declared.row.TablePart.{TablePart}
use Rattle.fzn_meaning.specs.declared.row.Part.{Part}
use Rattle.fzn_meaning.specs.declared.row.Part.TheVariants as parts
use Rattle.fzn_meaning.specs.Separable.{weighed, IsPart}
use Rattle.fzn_rules.specs.GlobalRows.{MayBeRow}
use Rattle.fzn_rules.specs.Separable.{IsLeastOf, IsVariableWeightIn, IsWeightIn}
use Rattle.fzn_rules.specs.Least.{IsRowWeight, lesser}
use Rattle.fzn_rules.proofs.CallerLemmas.{IsWeightBefore, before-none, before-skip, before-more, before-all, least-down, least-up, least-plain, least-listed, IsRowWeightBefore, rows-none, rows-more, rows-all}
use Rattle.fzn_sets.specs.Terms.{MayBe}
use Rattle.fzn_sets.proofs.ValueLemmas.{some_value}
use Rattle.fzn_levels.proofs.WeightLemmas.{some_is, none_some}

-- ---- of a variable

before_some : (set : IntSet) (c : ℤ) (listed : Listed) (count : ℕ) → (least : Option ℤ) × IsLeastOf (IsWeightBefore set c listed count) least
before_some set c listed zero = (None, before-none set c listed)
before_some set c listed (suc count) =
    let earlier = before_some set c listed count in
    let weight = weighed c (listed.low +ℤ pos count) (get_or listed.weights count None) in
    let more : (least : Option ℤ) × IsLeastOf (IsWeightBefore set c listed (count + 1)) least = elim (cases_Bool (contains set (listed.low +ℤ pos count))) [
      | inl in_set ↦ (lesser earlier.0 weight, before-more set c listed count earlier.0 earlier.1 weight in_set refl)
      | inr out ↦ (earlier.0, before-skip set c listed count earlier.0 earlier.1 out)
    ] in
    let next : count + 1 ≡ suc count = omega arith in
    subst (λ (n : ℕ). (least : Option ℤ) × IsLeastOf (IsWeightBefore set c listed n) least) next more

by_list : (set : IntSet) (part : VariablePart) (listed : Option Listed) → 0 < size set → part.listed ≡ listed → (least : Option ℤ) × IsLeastOf (IsVariableWeightIn set part) least
by_list set part (Some listed) some is =
    let all = before_some set part.coefficient listed (length listed.weights) in
    (all.0, least-listed set part listed all.0 is (before-all set part.coefficient listed all.0 all.1))
by_list set part None some is =
    let v = member_of_size set some in
    elim (sign part.coefficient) [
      | inl up ↦
          let low = part.coefficient *ℤ least set in
          (Some low, least-plain set part (Some low) is (least-up set part.coefficient (least set) low up (contains-least set v.0 v.1) (λ w here. least_le set w here) refl))
      | inr down ↦
          let low = part.coefficient *ℤ greatest set in
          (Some low, least-plain set part (Some low) is (least-down set part.coefficient (greatest set) low down (contains-greatest set v.0 v.1) (λ w here. le_greatest set w here) refl))
    ]
  where
    sign : (c : ℤ) → (pos 0 ≤ℤ c) ⊎ (c <ℤ pos 0)
    sign c = grind (arith, ints)

-- ---- of a table

cases_may : (sets : List IntSet) (term : Term) (v : ℤ) → MayBe sets term v ⊎ (MayBe sets term v → ⊥)
cases_may sets (Constant k) v = elim (cases_Bool (int_eq k v)) [
  | inl same ↦ inl ((Decides-int_eq k v).0 same)
  | inr apart ↦ inr (λ same. false≢true (sym apart ∙ (Decides-int_eq k v).1 same))
]
cases_may sets (Variable var) v = elim (cases_Bool (contains (set_of sets var) v)) [
  | inl in_set ↦ inl in_set
  | inr out ↦ inr (λ in_set. false≢true (sym out ∙ in_set))
]

cases_first : (P : ℕ → Type 0) → ((k : ℕ) → P k ⊎ (P k → ⊥)) → (count : ℕ) → ((k : ℕ) → k < count → P k) ⊎ (((k : ℕ) → k < count → P k) → ⊥)
cases_first P decide zero = inl (λ k below. absurd (omega arith))
cases_first P decide (suc count) = elim (cases_first P decide count) [
  | inr fails ↦ inr (λ all. fails (λ k below. all k (omega arith)))
  | inl before ↦ elim (decide count) [
    | inl here ↦ inl (λ k below. elim (cases_lt k count) [
      | inl lt ↦ before k lt
      | inr past ↦ let same : count ≡ k = omega arith in subst P same here
    ])
    | inr fails ↦ inr (λ all. fails (all count (omega arith)))
  ]
]

cases_row : (sets : List IntSet) (places : List Term) (rows : List ℤ) (r : ℕ) → MayBeRow sets places rows r ⊎ (MayBeRow sets places rows r → ⊥)
cases_row sets places rows r =
    cases_first (λ k. MayBe sets (get_or places k (Constant (pos 0))) (get_or rows (r * length places + k) (pos 0))) (λ k. cases_may sets (get_or places k (Constant (pos 0))) (get_or rows (r * length places + k) (pos 0))) (length places)

module _ (sets : List IntSet) (table : TablePart) where
  of_row : (r : ℕ) (weight : Option ℤ) → MayBeRow sets table.places table.rows r → get_or table.weights r None ≡ weight → (least : Option ℤ) × IsLeastOf (IsRowWeight sets table r) least
  of_row r None may is = (None, λ w at. none_some w (sym is ∙ at.1))
  of_row r (Some x) may is = (Some x, ((may, is), λ w at. no_less x w (some_is x w (sym is ∙ at.1))))
    where
      no_less : (a b : ℤ) → a ≡ b → a ≤ℤ b
      no_less a b e = omega (arith, ints)

  at_row : (r : ℕ) → (least : Option ℤ) × IsLeastOf (IsRowWeight sets table r) least
  at_row r = elim (cases_row sets table.places table.rows r) [
    | inl may ↦ of_row r (get_or table.weights r None) may refl
    | inr out ↦ (None, λ w at. out at.0)
  ]

  rows_some : (count : ℕ) → (least : Option ℤ) × IsLeastOf (IsRowWeightBefore sets table count) least
  rows_some zero = (None, rows-none sets table)
  rows_some (suc count) =
      let earlier = rows_some count in
      let here = at_row count in
      let more : (least : Option ℤ) × IsLeastOf (IsRowWeightBefore sets table (count + 1)) least = (lesser earlier.0 here.0, rows-more sets table count earlier.0 here.0 earlier.1 here.1) in
      let next : count + 1 ≡ suc count = omega arith in
      subst (λ (n : ℕ). (least : Option ℤ) × IsLeastOf (IsRowWeightBefore sets table n) least) next more

pub some_least : (sets : List IntSet) (part : Part) → is_some_empty sets ≡ false → IsPart (length sets) part → (least : Option ℤ) × IsLeastOf (IsWeightIn sets part) least
some_least sets (parts.Variable part) filled formed = by_list (set_of sets part.var) part part.listed (some_value sets part.var filled formed.variable) refl
some_least sets (parts.Table table) filled formed =
    let all = rows_some sets table (length table.weights) in
    (all.0, rows-all sets table all.0 all.1)
