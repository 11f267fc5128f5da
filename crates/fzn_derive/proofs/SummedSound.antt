-- The sum of constraints: values that meet each of them meet it, it is one that a model may have, and there is but one.
use Rattle.std.proofs.Common.{◌≡◌, ℕ, zero, suc, ◌-◌, ◌≤◌, List, [], ◌∷◌, ◌++◌, map, length, refl, sym, ap, subst, ◌∙◌, inl, inr, arith, ℤ, pos, ◌*ℤ◌, ◌≤ℤ◌, Option, Some, None, IfSome, IsSomeAnd, All}
use Rattle.std.specs.List.{AllByRecursion, range_with_len}
use Rattle.std.specs.Option.{option_and_then, option_map_or}
use Rattle.std.proofs.lemmas.Int.{ints}
use Rattle.std.proofs.lemmas.Bool.{cases_order}
use Rattle.std.proofs.lemmas.List.FromFn.{length-range_with_len, get_or-range_with_len}
use Rattle.std.proofs.lemmas.List.Elements.{All-from_get_or, recursion_from_All, All-filter, All-map, All-nil}
use Rattle.fzn_domain.specs.IntSet.{IntSet}
use Rattle.fzn_domain.specs.Narrow.{IsWithin}
use Rattle.fzn_values.specs.declared.term.Term.{Term}
use Rattle.fzn_values.specs.declared.term.Term.TheVariants.{Constant, Variable}
use Rattle.fzn_values.specs.declared.term.Place.{Place}
use Rattle.fzn_meaning.specs.declared.relation.Comparison.{Comparison}
use Rattle.fzn_meaning.specs.declared.relation.Comparison.TheVariants.{AtMost, Equal, NotEqual}
use Rattle.fzn_meaning.specs.declared.constraint.Constraint.{Constraint}
use Rattle.fzn_meaning.specs.declared.constraint.Constraint.TheVariants.{Linear}
use Rattle.fzn_values.specs.Term.{IsTerm, IsPlace, term_value, product_at, sum_at}
use Rattle.fzn_meaning.specs.Comparisons.{IsSwitched}
use Rattle.fzn_meaning.specs.Linear.{IsLinear}
use Rattle.fzn_meaning.specs.Meaning.{Meets, IsWellFormedConstraint, switch_value, booleans_of, IsBoolean, HasBooleanSets}
use Rattle.fzn_meaning.proofs.CallerLemmas.{bits-choice}
use Rattle.fzn_builtin_rules.specs.Form.{Form, form_of, FormHolds, Fits}
use Rattle.fzn_builtin_rules.proofs.CallerLemmas.{total_by-cons, total_by-append, form_fits}
use Rattle.fzn_builtin_rules.proofs.FormLemmas.{form_holds}
use Rattle.fzn_cited.specs.declared.multiple.Multiple.{Multiple}
use Rattle.fzn_cited.specs.declared.fault.DeriveFault.{DeriveFault}
use Rattle.fzn_cited.specs.declared.fault.DeriveFault.TheVariants.{Memory, NoSuchVariable, NoSuchConstraint, NotDerived}
use Rattle.fzn_cited.specs.Cited.{constraint_at}
use Rattle.fzn_derive.specs.Merged.{whole, has_weight, merged}
use Rattle.fzn_derive.specs.Summed.{form_given, times, scaled, scaled_all, scaled_bounds, bound_left, sum_left, MayMultiply, IsUsable, IsCitedAt, IsAddableAt, AreAddable, IsStatable, IsSummed, IsFaultAt, IsSumFault}
use Rattle.fzn_cited.proofs.CitedLemmas.{each_at}
use Rattle.fzn_derive.proofs.IntLemmas.{times_plus, times_times, times_le, times_zero}
use Rattle.fzn_derive.proofs.MergedSound.{IsAmong, sum-merged}
use Rattle.fzn_derive.proofs.SummedLemmas.{scaled_all-nil, scaled_all-cons, scaled_bounds-nil, scaled_bounds-cons, bound_left-is}

-- ---- one multiple

sum-times : (values : List ℤ) (k : ℤ) (places : List Place) → sum_at values (times k places) ≡ k *ℤ sum_at values places
sum-times values k [] = sym (times_zero k)
sum-times values k (p ∷ places) =
    let both = total_by-cons (product_at values) (record { coefficient = k *ℤ p.coefficient; term = p.term }) (times k places) in
    let plain = total_by-cons (product_at values) p places in
    let here = times_times k p.coefficient (term_value values p.term) in
    let rest = sum-times values k places in
    let apart = times_plus k (product_at values p) (sum_at values places) in
    let whole = ap (λ (x : ℤ). k *ℤ x) plain in
    omega (arith, ints)

multiplied : (comparison : Comparison) (k sum bound : ℤ) → MayMultiply comparison k → IsLinear comparison sum bound → (k *ℤ sum) ≤ℤ (k *ℤ bound)
multiplied AtMost k sum bound may holds = times_le k sum bound may holds
multiplied Equal k sum bound may holds = let e = ap (λ (x : ℤ). k *ℤ x) holds in omega (arith, ints)
multiplied NotEqual k sum bound may holds = absurd may

without : (switch : Option ℤ) (P : Type 0) → switch ≡ None → IsSwitched switch P → P
without None P none holds = holds
without (Some s) P none holds = absurd (cc)

form-multiplied : (values : List ℤ) (k : ℤ) (found : Form) → IsUsable k found → FormHolds found values → sum_at values (times k found.places) ≤ℤ (k *ℤ found.bound)
form-multiplied values k found usable holds =
    let plain = without (switch_value values found.switch) (IsLinear found.comparison (sum_at values found.places) found.bound) (ap (switch_value values) usable.without_switch) holds in
    let most = multiplied found.comparison k (sum_at values found.places) found.bound usable.by plain in
    let e = sum-times values k found.places in
    omega (arith, ints)

-- ---- the constraints that are given

holds-given : (declared : List IntSet) (values : List ℤ) (c : Option Constraint) → IsWithin declared values → IfSome c (HasBooleanSets declared) → IfSome c (λ (c : Constraint). Meets c values) → IfSome (option_and_then form_of c) (λ (found : Form). FormHolds found values)
holds-given declared values None within bits met = tt
holds-given declared values (Some c) within bits met = form_holds c values (bits-choice declared values c within bits) met

pub fits-given : (count : ℕ) (c : Option Constraint) → IfSome c (IsWellFormedConstraint count) → IfSome (option_and_then form_of c) (Fits count)
fits-given count None well = tt
fits-given count (Some c) well = form_fits count c well

-- ---- all multiples

multiple-holds : (values : List ℤ) (k : ℤ) (found : Option Form) → IsSomeAnd found (IsUsable k) → IfSome found (λ (f : Form). FormHolds f values)
    → sum_at values (option_map_or (λ (f : Form). times k f.places) found []) ≤ℤ option_map_or (λ (f : Form). k *ℤ f.bound) found (pos 0)
multiple-holds values k None usable holds = absurd usable
multiple-holds values k (Some f) usable holds = form-multiplied values k f usable holds

among_term : (count : ℕ) (term : Term) → IsTerm count term → IsAmong count term
among_term count (Constant k) fits = tt
among_term count (Variable var) fits = fits

abbrev AreAmong : ℕ → List Place → Type 0
AreAmong count places = AllByRecursion (λ (p : Place). IsAmong count p.term) places

among-times : (count : ℕ) (k : ℤ) (places : List Place) → AllByRecursion (IsPlace count) places → AreAmong count (times k places)
among-times count k [] fit = tt
among-times count k (p ∷ places) fit = (among_term count p.term fit.0.0, among-times count k places fit.1)

among-append : (count : ℕ) (front back : List Place) → AreAmong count front → AreAmong count back → AreAmong count (front ++ back)
among-append count [] back a b = b
among-append count (p ∷ front) back a b = (a.0, among-append count front back a.1 b)

among-scaled : (count : ℕ) (k : ℤ) (found : Option Form) → IfSome found (Fits count) → AreAmong count (option_map_or (λ (f : Form). times k f.places) found [])
among-scaled count k None fits = tt
among-scaled count k (Some f) fits = among-times count k f.places (recursion_from_All (IsPlace count) f.places fits.places_fit)

module _ (given : List Constraint) (declared : List IntSet) (values : List ℤ) (within : IsWithin declared values) where
  abbrev IsMet : ℕ → Type 0
  IsMet number = IfSome (constraint_at given number) (λ (c : Constraint). Meets c values)

  abbrev HasUsable : Multiple → Type 0
  HasUsable m = IsSomeAnd (form_given given m.constraint) (IsUsable m.multiplier)

  sum-most : All (HasBooleanSets declared) given → (multiples : List Multiple) → AllByRecursion HasUsable multiples → AllByRecursion IsMet (map (λ (m : Multiple). m.constraint) multiples)
      → sum_at values (scaled_all given multiples) ≤ℤ scaled_bounds given multiples
  sum-most booleans [] usable met =
      let places = ap (sum_at values) (scaled_all-nil given) in
      let bounds = scaled_bounds-nil given in
      omega (arith, ints)
  sum-most booleans (m ∷ multiples) usable met =
      let places = ap (sum_at values) (scaled_all-cons given m multiples) in
      let both = total_by-append (product_at values) (scaled given m) (scaled_all given multiples) in
      let bounds = scaled_bounds-cons given m multiples in
      let holds = holds-given declared values (constraint_at given m.constraint) within (each_at (HasBooleanSets declared) given m.constraint booleans) met.0 in
      let here = multiple-holds values m.multiplier (form_given given m.constraint) usable.0 holds in
      let rest = sum-most booleans multiples usable.1 met.1 in
      omega (arith, ints)

among-all : (given : List Constraint) (count : ℕ) → All (IsWellFormedConstraint count) given → (multiples : List Multiple) → AreAmong count (scaled_all given multiples)
among-all given count well [] = subst (AreAmong count) (sym (scaled_all-nil given)) tt
among-all given count well (m ∷ multiples) =
    let fits = fits-given count (constraint_at given m.constraint) (each_at (IsWellFormedConstraint count) given m.constraint well) in
    subst (AreAmong count) (sym (scaled_all-cons given m multiples))
    (among-append count (scaled given m) (scaled_all given multiples) (among-scaled count m.multiplier (form_given given m.constraint) fits) (among-all given count well multiples))

usable-all : (given : List Constraint) (multiples : List Multiple) → AreAddable given multiples (length multiples) → AllByRecursion (λ (m : Multiple). IsSomeAnd (form_given given m.constraint) (IsUsable m.multiplier)) multiples
usable-all given multiples addable =
    let P = λ (m : Multiple). IsSomeAnd (form_given given m.constraint) (IsUsable m.multiplier) in
    recursion_from_All P multiples (All-from_get_or P multiples (record { multiplier = pos 0; constraint = 0 }) (λ i inside. (addable i inside).1.usable))

linear-meets : (values : List ℤ) (sum : List Place) (bound : ℤ) → sum_at values sum ≤ℤ bound → Meets (Linear sum AtMost bound None) values
unfolding Meets
linear-meets values sum bound most = most

-- Values within the declared sets that meet the constraints that are added up meet their sum.
pub sum-Meets : (given : List Constraint) (declared : List IntSet) (multiples : List Multiple) (constraint : Constraint) (values : List ℤ)
    → All (IsWellFormedConstraint (length declared)) given → All (HasBooleanSets declared) given
    → IsSummed given (length declared) multiples constraint → IsWithin declared values
    → All (λ (number : ℕ). IfSome (constraint_at given number) (λ (c : Constraint). Meets c values)) (map (λ (m : Multiple). m.constraint) multiples)
    → Meets constraint values
sum-Meets given declared multiples constraint values well booleans summed within met =
    let count = length declared in
    let places = scaled_all given multiples in
    let most = sum-most given declared values within booleans multiples (usable-all given multiples summed.addable) (recursion_from_All _ (map (λ (m : Multiple). m.constraint) multiples) met) in
    let split = sum-merged values count places (among-all given count well multiples) in
    let left = bound_left-is given multiples in
    subst (λ (c : Constraint). Meets c values) (sym summed.is) (linear-meets values (sum_left given count multiples) (bound_left given multiples) (omega (arith, ints)))

-- ---- it is one that a model may have

range-inside : (count : ℕ) → All (λ (n : ℕ). (1 ≤ n) × (n ≤ count)) (range_with_len 1 count)
range-inside count = All-from_get_or (λ (n : ℕ). (1 ≤ n) × (n ≤ count)) (range_with_len 1 count) 0 (λ i inside.
    let e = get_or-range_with_len 1 count i 0 (omega (arith, length-range_with_len 1 count)) in
    let l = length-range_with_len 1 count in
    (omega arith, omega arith))

merged-terms : (count : ℕ) (places : List Place) → All (λ (p : Place). IsTerm count p.term) (merged count places)
unfolding merged
merged-terms count places =
    let P = λ (p : Place). IsTerm count p.term in
    All-filter has_weight P (map (whole places) (range_with_len 1 count)) (All-map P (whole places) (range_with_len 1 count) (range-inside count))

linear-formed : (count : ℕ) (sum : List Place) (bound : ℤ) → All (λ (p : Place). IsTerm count p.term) sum → IsStatable sum bound → IsWellFormedConstraint count (Linear sum AtMost bound None)
unfolding IsWellFormedConstraint
linear-formed count sum bound terms statable = ((λ k d inside. (terms k d inside, statable.coefficients k d inside), statable.short), statable.bounded, tt)

linear-booleans : (declared : List IntSet) (sum : List Place) (bound : ℤ) → HasBooleanSets declared (Linear sum AtMost bound None)
unfolding booleans_of
linear-booleans declared sum bound = All-nil (IsBoolean declared)

pub sum-formed : (given : List Constraint) (declared : List IntSet) (multiples : List Multiple) (constraint : Constraint)
    → IsSummed given (length declared) multiples constraint → IsWellFormedConstraint (length declared) constraint × HasBooleanSets declared constraint
sum-formed given declared multiples constraint summed =
    let count = length declared in
    let sum = sum_left given count multiples in
    let bound = bound_left given multiples in (
      subst (IsWellFormedConstraint count) (sym summed.is) (linear-formed count sum bound (merged-terms count (scaled_all given multiples)) summed.statable),
      subst (HasBooleanSets declared) (sym summed.is) (linear-booleans declared sum bound),
    )

-- ---- it is one, and so is the fault of one that is none

pub one-sum : (given : List Constraint) (count : ℕ) (multiples : List Multiple) (a b : Constraint) → IsSummed given count multiples a → IsSummed given count multiples b → a ≡ b
one-sum given count multiples a b x y = x.is ∙ sym y.is

not-addable : (given : List Constraint) (multiples : List Multiple) (i : ℕ) (fault : DeriveFault) → IsFaultAt given multiples i fault → IsCitedAt given multiples i × IsAddableAt given multiples i → ⊥
not-addable given multiples i Memory here addable = here
not-addable given multiples i NoSuchVariable here addable = here
not-addable given multiples i NoSuchConstraint here addable = here addable.0
not-addable given multiples i NotDerived here addable = here.1 addable.1

pub no-fault : (given : List Constraint) (count : ℕ) (multiples : List Multiple) (constraint : Constraint) (fault : DeriveFault) → IsSummed given count multiples constraint → IsSumFault given count multiples fault → ⊥
no-fault given count multiples constraint fault summed (inl first) = not-addable given multiples first.place fault first.here (summed.addable first.place first.inside)
no-fault given count multiples constraint fault summed (inr large) = large.too_large summed.statable

same-here : (given : List Constraint) (multiples : List Multiple) (i : ℕ) (f g : DeriveFault) → IsFaultAt given multiples i f → IsFaultAt given multiples i g → f ≡ g
same-here given multiples i Memory g x y = absurd x
same-here given multiples i NoSuchVariable g x y = absurd x
same-here given multiples i NoSuchConstraint Memory x y = absurd y
same-here given multiples i NoSuchConstraint NoSuchVariable x y = absurd y
same-here given multiples i NoSuchConstraint NoSuchConstraint x y = refl
same-here given multiples i NoSuchConstraint NotDerived x y = absurd (x y.0)
same-here given multiples i NotDerived Memory x y = absurd y
same-here given multiples i NotDerived NoSuchVariable x y = absurd y
same-here given multiples i NotDerived NoSuchConstraint x y = absurd (y x.0)
same-here given multiples i NotDerived NotDerived x y = refl

pub one-fault : (given : List Constraint) (count : ℕ) (multiples : List Multiple) (f g : DeriveFault) → IsSumFault given count multiples f → IsSumFault given count multiples g → f ≡ g
one-fault given count multiples f g (inl x) (inl y) = elim (cases_order x.place y.place) [
  | inl same ↦ same-here given multiples y.place f g (subst (λ (i : ℕ). IsFaultAt given multiples i f) same x.here) y.here
  | inr other ↦ elim other [
    | inl before ↦ absurd (not-addable given multiples x.place f x.here (y.before x.place before))
    | inr after ↦ absurd (not-addable given multiples y.place g y.here (x.before y.place after))
  ]
]
one-fault given count multiples f g (inl x) (inr y) = absurd (not-addable given multiples x.place f x.here (y.addable x.place x.inside))
one-fault given count multiples f g (inr x) (inl y) = absurd (not-addable given multiples y.place g y.here (x.addable y.place y.inside))
one-fault given count multiples f g (inr x) (inr y) = x.fault_is ∙ sym y.fault_is
