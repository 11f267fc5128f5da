use Rattle.std.proofs.Common.{◌≡◌, ◌⊎◌, ℕ, ℤ, pos, ◌+ℤ◌, ◌<◌, ◌≤◌, ◌<ℤ◌, ◌≤ℤ◌, to_z, of_z, w64, int_lt, arith, true, false, FitsSigned, rules, ap, subst, ◌∙◌, inl, inr, sym}
use lib.Signed.{lt_z}
use Rattle.std.proofs.lemmas.Int.{ints}
use Rattle.std.proofs.lemmas.Bool.{cases_Bool}
use Rattle.fzn_domain.specs.declared.literal.Op.TheVariants.{Equal}
use Rattle.fzn_clauses.specs.Keys.{bucket_of, place_among}
use Rattle.fzn_clauses.proofs.state.next_between.Goals.{then-above-value+then-from-place+then-place-next, else-above-value, else-above-value-via-then-above-value+then-from-place+else-place-next, else-above-value-via-then-above-value+else-from-place, else-above-value-via-else-above-value}
use Rattle.fzn_clauses.proofs.state.next_between.Goals as goal

at_or_under : (v value : ℤ) → v <ℤ (value +ℤ pos 1) → (v ≡ value) ⊎ (v <ℤ value)
at_or_under v value h = elim (cases_Bool (int_lt v value)) [
  | inl e ↦ inr (grind (arith, ints, e))
  | inr e ↦
      let over : value ≤ℤ v = grind (arith, ints, e) in
      inl (omega (arith, ints))
]

-- the same of one number more, whose own place is not passed
passed_more : (P : ℤ → ℕ) (over value : ℤ) (from next later : ℕ) → ((v : ℤ) → over <ℤ v → v <ℤ value → (place : ℕ) → from ≤ place → place < next → P v ≡ place → ⊥) → later ≤ next → (over <ℤ value → from ≤ P value → later ≤ P value) → (v : ℤ) → over <ℤ v → v <ℤ (value +ℤ pos 1) → (place : ℕ) → from ≤ place → place < later → P v ≡ place → ⊥
passed_more P over value from next later old less here v above under place low high at = elim (at_or_under v value under) [
  | inl same ↦
      let there : P value ≡ place = sym (ap P same) ∙ at in
      let far = here (subst (λ (w : ℤ). over <ℤ w) same above) (omega (arith, there, low)) in
      omega (arith, there, high, far)
  | inr lt ↦ old v above lt place low (omega (arith, high, less)) at
]

not_above : (above value : ℤ) → to_z w64 (of_z w64 above) <ℤ value → lt_z (to_z w64 (of_z w64 above)) value ≡ false → ⊥
not_above above value less fails = grind (arith, ints)

-- what is computed of a number below another fits
in_order : (value below v : ℤ) → FitsSigned w64 below → lt_z value (to_z w64 (of_z w64 below)) ≡ true → v <ℤ to_z w64 (of_z w64 (value +ℤ pos 1)) → FitsSigned w64 value → v <ℤ (value +ℤ pos 1)
in_order value below v fits test under small =
    let less : value <ℤ below = grind (arith, ints) in
    omega (arith, ints)

pub loop-value-preserved : goal.loop-value-preserved
loop-value-preserved c =
    let value = to_z w64 c.loop-value.value-bits in
    let over = to_z w64 (of_z w64 c.args.above) in
    let P = λ (v : ℤ). place_among Equal v in
    let own : c.bucket_of-place.result ≡ bucket_of value = c.bucket_of-place.ensures in
    let known = c.loop-value.invariant in
    let small : FitsSigned w64 value = search rules in
    let below : FitsSigned w64 c.args.below = search rules in
    elim c.if-above-value.branch [
      | then-above-value+then-from-place+then-place-next w ↦ record {
        later = omega (arith, w.next-is, w.if-from-place.true);
        within = λ place low high. known.within place low (omega (arith, high, w.next-is, w.if-place-next.true));
        passed = λ v above under place low high at.
            let less = in_order value c.args.below v below c.loop-value-test.true under small in
            passed_more P over value c.args.from c.loop-value.next c.if-above-value.next known.passed
            (omega (arith, w.next-is, w.if-place-next.true)) (λ _ _. omega (arith, w.next-is, own)) v above less place low high at;
      }
      | else-above-value w ↦ record {
        later = omega (arith, w.next-is, known.later);
        within = λ place low high. known.within place low (omega (arith, high, w.next-is));
        passed = λ v above under place low high at.
            let less = in_order value c.args.below v below c.loop-value-test.true under small in
            passed_more P over value c.args.from c.loop-value.next c.if-above-value.next known.passed
            (omega (arith, w.next-is))
            (λ more from. elim w.else-above-value.branch [
              | else-above-value-via-then-above-value+then-from-place+else-place-next u ↦ omega (arith, w.next-is, u.if-place-next.false, own)
              | else-above-value-via-then-above-value+else-from-place u ↦ omega (arith, u.if-from-place.false, own, from)
              | else-above-value-via-else-above-value u ↦ absurd (not_above c.args.above value more u.if-above-value.false)
            ]) v above less place low high at;
      }
    ]
