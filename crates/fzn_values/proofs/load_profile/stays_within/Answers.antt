use Rattle.std.proofs.Common.{◌≡◌, ◌+◌, ◌<◌, true, false, length, below_more, ℤ, ◌≤ℤ◌, int_lt, arith}
use Rattle.std.proofs.lemmas.Int.{ints}
use Rattle.fzn_values.specs.LoadProfile.{load_after}
use Rattle.fzn_values.proofs.LoadProfileLemmas.{summed-is, summed-bound}
use Rattle.fzn_values.proofs.load_profile.stays_within.Goals as goal
use mir.Syntax.{w64, w128}
use mir.Val.{to_z, of_z, SFits}

at_most : (c x y : ℤ) → SFits w64 c → int_lt (to_z w128 (of_z w128 (to_z w64 (of_z w64 c)))) x ≡ false → x ≡ y → y ≤ℤ to_z w64 (of_z w64 c)
at_most c x y fits e is = grind (arith, ints)

above : (c x y : ℤ) → SFits w64 c → int_lt (to_z w128 (of_z w128 (to_z w64 (of_z w64 c)))) x ≡ true → x ≡ y → y ≤ℤ c → ⊥
above c x y fits e is le = grind (arith, ints)

-- one more change
pub loop-place-preserved : goal.loop-place-preserved
loop-place-preserved c =
    let lt : c.loop-place.place < length c.args.changes.now = omega arith in
    let here = c.loop-place.invariant in
    let now = summed-is c.args.changes.now c.loop-place.place (to_z w128 c.loop-place.load-bits) lt (omega arith) c.requires.room here.bound here.value in
    record {
      value = now;
      bound = summed-bound c.args.changes.now c.loop-place.place (to_z w128 c.loop-place.load-bits) lt (omega arith) c.requires.room here.bound;
      within = below_more (λ k. load_after (k + 1) c.args.changes.now ≤ℤ to_z w64 (of_z w64 c.args.capacity)) c.loop-place.place here.within (at_most c.args.capacity _ _ c.ranges.capacity c.if-capacity-load.false now);
    }

-- the load is above the capacity here
pub returns-then-capacity-load : goal.returns-then-capacity-load
returns-then-capacity-load c =
    let lt : c.loop-place.place < length c.args.changes.now = omega arith in
    let here = c.loop-place.invariant in
    let now = summed-is c.args.changes.now c.loop-place.place (to_z w128 c.loop-place.load-bits) lt (omega arith) c.requires.room here.bound here.value in (
      (λ y. absurd (cc y)),
      (λ h. absurd (above c.args.capacity _ _ c.ranges.capacity c.if-capacity-load.true now (h c.loop-place.place c.loop-place-test.true))),
    )
