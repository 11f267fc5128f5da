use Rattle.std.proofs.Common.{pos, ◌<◌, ◌<ℤ◌, sym, subst, refl, arith, to_z, w64}
use Rattle.std.proofs.lemmas.Int.{ints}
use Rattle.fzn_domain.specs.IntSet.{IsNextAbove, NoneAbove, width}
use Rattle.fzn_domain.proofs.DomainLemmas.{real}
use Rattle.fzn_domain.proofs.SetLemmas.{width_falls}
use Rattle.fzn_rules.specs.Runs.{HasRun}
use Rattle.fzn_rules.proofs.RunLemmas.{walk_on, walk_ends}
use Rattle.fzn_rules.proofs.cut.has_all.Goals as goal

pub loop-low-smaller : goal.loop-low-smaller
loop-low-smaller c =
    let high = real _ c.run_end-high.ensures.in_limits in
    let less : to_z w64 c.loop-low.low-bits <ℤ c.in-Some.next = omega (arith, ints, c.run_end-high.ensures.run.in_order, c.in-Some.ensures.found.greater) in
    subst (λ n. width n (pos 1000000000) < width (to_z w64 c.loop-low.low-bits) (pos 1000000000)) (sym (real _ c.in-Some.ensures.in_limits))
    (width_falls _ _ _ less c.in-Some.ensures.in_limits.1)

pub loop-low-preserved : goal.loop-low-preserved
loop-low-preserved c =
    let high = real _ c.run_end-high.ensures.in_limits in
    let above = subst (λ h. IsNextAbove c.args.domain.now h c.in-Some.next) high c.in-Some.ensures.found in
    let run = subst (HasRun c.args.places.now (to_z w64 c.loop-low.low-bits)) high (c.has_run.ensures.0 c.if-not-has_run.false) in
    rw (real _ c.in-Some.ensures.in_limits) (record {
      member = above.member;
      in_limits = c.in-Some.ensures.in_limits;
      done = walk_on c.args.domain.now c.args.places.now _ _ _ c.loop-low.invariant.done run above;
    })

pub returns-in-None : goal.returns-in-None
returns-in-None c =
    let high = real _ c.run_end-high.ensures.in_limits in
    let none = subst (NoneAbove c.args.domain.now) high c.in-None.ensures.none in
    let run = subst (HasRun c.args.places.now (to_z w64 c.loop-low.low-bits)) high (c.has_run.ensures.0 c.if-not-has_run.false) in
    ((λ yes. walk_ends c.args.domain.now c.args.places.now _ _ c.loop-low.invariant.done run none), (λ all. refl))
