use Rattle.std.proofs.Common.{◌≡◌, ◌+◌, ◌^◌, ℤ, pos, ◌+ℤ◌, ◌-ℤ◌, neg_ℤ, sym, subst₂, rules, arith}
use Rattle.std.proofs.lemmas.Int.{ints, to_z-of_z}
use Rattle.fzn_values.specs.LoadProfile.{IsChangedFrom, AreWithin}
use Rattle.fzn_values.proofs.LoadProfileLemmas.{IsUsedBy-ended, IsUsedBy-started, AreWithin-more}
use Rattle.fzn_values.proofs.load_profile.add_task.Goals as goal
use mir.Syntax.{w64, w128}
use mir.Val.{to_z, of_z, SFits}

same_use : (u : ℤ) → SFits w64 u → to_z w128 (of_z w128 (to_z w64 (of_z w64 u))) ≡ u
same_use u fits = omega (arith, ints)

less_use : (u : ℤ) → SFits w64 u → to_z w128 (of_z w128 (pos 0 -ℤ to_z w128 (of_z w128 (to_z w64 (of_z w64 u))))) ≡ neg_ℤ u
less_use u fits = omega (arith, ints)

same_end : (s d e : ℤ) → SFits w64 s → SFits w64 d → SFits w64 (to_z w64 (of_z w64 s) +ℤ to_z w64 (of_z w64 d)) → e ≡ to_z w64 (of_z w64 s) +ℤ to_z w64 (of_z w64 d) → to_z w64 (of_z w64 e) ≡ s +ℤ d
same_end s d e fs fd fits is = omega (arith, ints)

-- the use is added at the start, and taken off at the end
pub returns-in-Some-clause-used : goal.returns-in-Some-clause-used
returns-in-Some-clause-used g c =
    IsUsedBy-ended c.args.times.now c.args.changes.now c.add_change.new.changes c.args.start c.args.duration c.args.uses c.requires.not_negative
    (subst₂ (λ t u. IsChangedFrom t u c.args.times.now c.args.changes.now c.add_change.new.changes) (to_z-of_z w64 c.args.start c.ranges.start) (same_use c.args.uses c.ranges.uses) c.add_change.ensures.changed)
    c.add_change-in-Some.new.changes
    (subst₂ (λ t u. IsChangedFrom t u c.args.times.now c.add_change.new.changes c.add_change-in-Some.new.changes) (same_end c.args.start c.args.duration c.in-Some.end c.ranges.start c.ranges.duration c.in-Some.ensures.0 c.in-Some.ensures.1) (less_use c.args.uses c.ranges.uses) c.add_change-in-Some.ensures.changed)

pub returns-in_default-clause-used : goal.returns-in_default-clause-used
returns-in_default-clause-used g c =
    IsUsedBy-started c.args.times.now c.args.changes.now c.add_change.new.changes c.args.start c.args.duration c.args.uses c.requires.not_negative
    (subst₂ (λ t u. IsChangedFrom t u c.args.times.now c.args.changes.now c.add_change.new.changes) (to_z-of_z w64 c.args.start c.ranges.start) (same_use c.args.uses c.ranges.uses) c.add_change.ensures.changed)
    c.ranges.start (λ fits. c.in_default.ensures (subst₂ (λ s d. SFits w64 (s +ℤ d)) (sym (to_z-of_z w64 c.args.start c.ranges.start)) (sym (to_z-of_z w64 c.args.duration c.ranges.duration)) fits)) c.requires.order.fits

pub add_change-requires-in-Some : goal.add_change-requires-in-Some
add_change-requires-in-Some g c =
    let room : AreWithin (2 ^ 101) c.add_change.new.changes = AreWithin-more (2 ^ 100 + 2 ^ 63) (2 ^ 101) c.add_change.new.changes (omega arith) (c.add_change.ensures.bound (2 ^ 100) c.requires.room) in
    search (rules, room)

pub returns-in-Some-clause-bound : goal.returns-in-Some-clause-bound
returns-in-Some-clause-bound g c bound h =
    AreWithin-more (bound + 2 ^ 63 + 2 ^ 63) (bound + 2 ^ 64) c.add_change-in-Some.new.changes (omega arith) (c.add_change-in-Some.ensures.bound (bound + 2 ^ 63) (c.add_change.ensures.bound bound h))

pub returns-in_default-clause-bound : goal.returns-in_default-clause-bound
returns-in_default-clause-bound g c bound h = AreWithin-more (bound + 2 ^ 63) (bound + 2 ^ 64) c.add_change.new.changes (omega arith) (c.add_change.ensures.bound bound h)
