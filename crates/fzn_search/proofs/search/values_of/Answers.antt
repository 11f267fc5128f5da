-- Two lists of values within sets of one value are equal.
use Rattle.std.proofs.Common.{◌≡◌, length, arith}
use Rattle.fzn_search.proofs.FixedLemmas.{within_only, IsWithin-whole}
use Rattle.fzn_search.proofs.search.values_of.Goals as goal

pub returns-clause-only : goal.returns-clause-only
returns-clause-only c other within =
    let sets = c.args.trail.now.sets in
    let one_each = c.len-entries.ensures.narrower.one_each in
    let all : c.loop-i.i ≡ length sets = omega (arith, c.loop-i.auto.i-end) in
    within_only sets other c.loop-i.values c.requires.fixed within (IsWithin-whole sets c.loop-i.values c.loop-i.i all c.loop-i.invariant)
