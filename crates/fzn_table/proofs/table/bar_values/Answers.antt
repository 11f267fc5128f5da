use Rattle.std.proofs.Common.{to_z, w64}
use Rattle.fzn_domain.proofs.DomainLemmas.{real}
use Rattle.fzn_terms.specs.Values.{place_at}
use Rattle.fzn_terms.proofs.NextLemmas.{next_done, all_done}
use Rattle.fzn_table.specs.Passes.{HasSupport}
use Rattle.fzn_table.proofs.table.bar_values.Goals as goal

pub loop-value-preserved : goal.loop-value-preserved
loop-value-preserved c =
    let pass = c.args.pass.now in
    let value = to_z w64 c.loop-value.value-bits in
    rw (real _ c.in-Some.ensures.in_limits) (record {
      member = c.in-Some.ensures.found.member;
      in_limits = c.in-Some.ensures.in_limits;
      done = λ nothing. next_done (HasSupport pass c.args.p) pass.trail.now.sets (place_at pass.places.now c.args.p) value (c.in_ok-test_value.ensures.none nothing) (c.loop-value.invariant.done (c.test_value.ensures.kept nothing)) c.in-Some.next c.in-Some.ensures.found;
      marks = c.test_value.ensures.marks;
      found = c.test_value.ensures.found;
      kept = λ nothing. c.loop-value.invariant.kept (c.test_value.ensures.kept nothing);
    })

pub returns-in-None-clause-none : goal.returns-in-None-clause-none
returns-in-None-clause-none c = λ nothing.
    let pass = c.args.pass.now in
    let value = to_z w64 c.loop-value.value-bits in
    all_done (HasSupport pass c.args.p) pass.trail.now.sets (place_at pass.places.now c.args.p) value (c.in_ok-test_value.ensures.none nothing) (c.loop-value.invariant.done (c.test_value.ensures.kept nothing)) c.in-None.ensures.none
