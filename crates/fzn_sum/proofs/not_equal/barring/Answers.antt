use Rattle.std.proofs.Common.{◌≡◌, ◌≢◌, ◌<◌, ◌≤◌, ◌*◌, ◌^◌, unsigned_abs, true, rules, arith, refl, ap, sym, subst, ◌∙◌, ℤ, pos, ◌+ℤ◌, ◌-ℤ◌, ◌*ℤ◌, w64, of_z, to_z, FitsSigned}
use Rattle.std.specs.Int.{w128}
use Rattle.std.proofs.lemmas.Bool.{true≢false}
use Rattle.std.proofs.lemmas.Int.{ints, to_z-of_z, fits_signed_from_abs}
use Rattle.fzn_domain.specs.IntSet.{IntSet, contains}
use Rattle.fzn_values.specs.declared.term.Term.{Term}
use Rattle.fzn_sets.specs.Terms.{MayBe}
use Rattle.fzn_builtin_rules.specs.Linear.{low_product, least_sum}
use Rattle.fzn_sum.proofs.ProductLemmas.{quotient_is}
use Rattle.fzn_sum.proofs.PinLemmas.{one_of_constant, one_of_zero}
use Rattle.fzn_sum.proofs.not_equal.barring.Goals as goal

below : (z : ℤ) → unsigned_abs z ≤ 200002 * 1000000000000000000 → unsigned_abs z < 2 ^ 127
below z h = omega arith

-- what the place has to give, as the code adds it up
gives_missing : (c v number least low missing : ℤ) → FitsSigned w64 c → FitsSigned w128 missing → missing ≡ (to_z w64 (of_z w64 number) -ℤ least) +ℤ low → FitsSigned w64 number → (least -ℤ low) +ℤ c *ℤ v ≡ number → to_z w64 (of_z w64 c) *ℤ v ≡ to_z w128 (of_z w128 missing)
gives_missing c v number least low missing small fits is number_fits sum =
    let e : to_z w64 (of_z w64 c) *ℤ v ≡ c *ℤ v = ap (λ (x : ℤ). x *ℤ v) (to_z-of_z w64 c small) in
    let f : to_z w64 (of_z w64 number) ≡ number = to_z-of_z w64 number number_fits in
    let g : c *ℤ v ≡ missing = omega (arith, ints) in
    e ∙ g ∙ sym (to_z-of_z w128 missing fits)

missing_given : (c v number least low missing : ℤ) → FitsSigned w64 c → FitsSigned w128 missing → missing ≡ (to_z w64 (of_z w64 number) -ℤ least) +ℤ low → FitsSigned w64 number → to_z w64 (of_z w64 c) *ℤ v ≡ to_z w128 (of_z w128 missing) → (least -ℤ low) +ℤ c *ℤ v ≡ number
missing_given c v number least low missing small fits is number_fits gives =
    let e : to_z w64 (of_z w64 c) *ℤ v ≡ c *ℤ v = ap (λ (x : ℤ). x *ℤ v) (to_z-of_z w64 c small) in
    let f : to_z w64 (of_z w64 number) ≡ number = to_z-of_z w64 number number_fits in
    let g : c *ℤ v ≡ missing = sym e ∙ gives ∙ to_z-of_z w128 missing fits in
    omega (arith, ints)

pub returns-in_default-clause-none : goal.returns-in_default-clause-none
returns-in_default-clause-none c = λ v is sum. absurd (c.requires.several (one_of_constant c.args.trail.now.sets c.args.place c.in_default.field-0 c.in_default.is))

pub value_giving-requires-clause-some : goal.value_giving-requires-clause-some
value_giving-requires-clause-some c =
    let fits : FitsSigned w64 c.args.place.coefficient = search rules in
    λ zero. c.requires.several (one_of_zero c.args.trail.now.sets c.args.place (omega (arith, ints)))

pub returns-in_default-value_giving-clause-none : goal.returns-in_default-value_giving-clause-none
returns-in_default-value_giving-clause-none c = λ v is sum.
    let small : FitsSigned w64 c.args.place.coefficient = search rules in
    let fits = fits_signed_from_abs w128 c.missing-missing.result (below c.missing-missing.result c.missing-missing.ensures.bounded) in
    let inside : contains c.domain-domain.result.now v ≡ true =
    ap (λ (s : IntSet). contains s v) c.domain-domain.ensures.value ∙ subst (λ (t : Term). MayBe c.args.trail.now.sets t v) c.in-Variable.is is in
    let low = c.min.ensures.first v inside in
    let high = c.max.ensures.last v inside in
    let low_limits = c.min.ensures.in_limits in
    let high_limits = c.max.ensures.in_limits in
    c.in_default-value_giving.ensures.none v (omega (arith, ints)) (omega (arith, ints))
    (gives_missing c.args.place.coefficient v c.args.number _ _ c.missing-missing.result small fits c.missing-missing.ensures.value c.ranges.number sum)

pub returns-then-not-contains-clause-none : goal.returns-then-not-contains-clause-none
returns-then-not-contains-clause-none c = λ v is sum.
    let small : FitsSigned w64 c.args.place.coefficient = search rules in
    let fits = fits_signed_from_abs w128 c.missing-missing.result (below c.missing-missing.result c.missing-missing.ensures.bounded) in
    let inside : contains c.domain-domain.result.now v ≡ true =
    ap (λ (s : IntSet). contains s v) c.domain-domain.ensures.value ∙ subst (λ (t : Term). MayBe c.args.trail.now.sets t v) c.in-Variable.is is in
    let low_limits = c.min.ensures.in_limits in
    let high_limits = c.max.ensures.in_limits in
    let within = c.in-Some.ensures.within in
    let narrow : to_z w64 (of_z w64 c.in-Some.value) ≡ c.in-Some.value = omega (arith, ints) in
    let wide = to_z w64 (of_z w64 c.args.place.coefficient) in
    let some : to_z w64 (of_z w64 c.args.place.coefficient) ≢ pos 0 = λ zero. c.requires.several (one_of_zero c.args.trail.now.sets c.args.place (omega (arith, ints))) in
    let gives = gives_missing c.args.place.coefficient v c.args.number _ _ c.missing-missing.result small fits c.missing-missing.ensures.value c.ranges.number sum in
    let same : v ≡ c.in-Some.value = sym (quotient_is wide v _ some gives) ∙ quotient_is wide c.in-Some.value _ some c.in-Some.ensures.found in
    true≢false (sym inside ∙ ap (contains c.domain-domain.result.now) (same ∙ sym narrow) ∙ sym c.contains.ensures ∙ c.if-not-contains.true)

pub returns-clause-found : goal.returns-clause-found
returns-clause-found c =
    let small : FitsSigned w64 c.args.place.coefficient = search rules in
    let fits = fits_signed_from_abs w128 c.missing-missing.result (below c.missing-missing.result c.missing-missing.ensures.bounded) in
    let low_limits = c.min.ensures.in_limits in
    let high_limits = c.max.ensures.in_limits in
    let within = c.in-Some.ensures.within in
    let narrow : to_z w64 (of_z w64 c.in-Some.value) ≡ c.in-Some.value = omega (arith, ints) in
    let sum = missing_given c.args.place.coefficient c.in-Some.value c.args.number _ _ c.missing-missing.result small fits c.missing-missing.ensures.value c.ranges.number c.in-Some.ensures.found in
    record {
      of_place = c.in-Variable.is;
      denies = refl;
      in_limits = (omega (arith, ints), omega (arith, ints));
      member = ap (λ (s : IntSet). contains s (to_z w64 (of_z w64 c.in-Some.value))) (sym c.domain-domain.ensures.value) ∙ sym c.contains.ensures ∙ c.if-not-contains.false;
      barred = ap (λ (x : ℤ). (least_sum c.args.trail.now.sets c.args.places.now -ℤ low_product c.args.trail.now.sets c.args.place) +ℤ c.args.place.coefficient *ℤ x) narrow ∙ sum;
    }
