use Rattle.std.proofs.Common.{rules, ◌≡◌, true, sym, subst, w64, to_z, FitsSigned, ◌<ℤ◌}
use Rattle.fzn_domain.specs.IntSet.{IntSet, contains}
use Rattle.fzn_domain.proofs.DomainLemmas.{real}
use Rattle.fzn_circuit.proofs.ClosedLemmas.{below_next, all_between, last_before}
use Rattle.fzn_circuit.proofs.WayLemmas.{lt_bits}
use Rattle.fzn_circuit.proofs.closed.explain_between.Goals as goal

pub returns-in_default : goal.returns-in_default
returns-in_default c = λ told.
    let here = c.in_ok-explain_value.ensures c.if-not-branch.false in
    all_between c.args.pass.now.trail.now c.args.places.now c.args.var c.args.low.now c.args.clause.now (to_z w64 c.loop.value-bits) c.loop.clause c.explain_value.new.clause c.requires.var c.loop.invariant.below here c.args.high.now
    (λ v member to. c.in_default.ensures.none v (subst (λ (s : IntSet). contains s v ≡ true) (sym c.declared-declared.ensures) member))

pub returns-then-high-next : goal.returns-then-high-next
returns-then-high-next c = λ told.
    let here = c.in_ok-explain_value.ensures c.if-not-branch.false in
    let fits : FitsSigned w64 c.args.high.now = search rules in
    let fits_next : FitsSigned w64 c.in-Some.next = search rules in
    let over : c.args.high.now <ℤ c.in-Some.next = lt_bits c.args.high.now c.in-Some.next fits fits_next c.if-high-next.true in
    all_between c.args.pass.now.trail.now c.args.places.now c.args.var c.args.low.now c.args.clause.now (to_z w64 c.loop.value-bits) c.loop.clause c.explain_value.new.clause c.requires.var c.loop.invariant.below here c.args.high.now
    (λ v member to.
    last_before (to_z w64 c.loop.value-bits) c.in-Some.next c.args.high.now v over
    (λ above. c.in-Some.ensures.found.first v (subst (λ (s : IntSet). contains s v ≡ true) (sym c.declared-declared.ensures) member) above) to)

pub loop-preserved : goal.loop-preserved
loop-preserved c =
    let here = c.in_ok-explain_value.ensures c.if-not-branch.false in
    rw (real _ c.in-Some.ensures.in_limits) (record {
      limits = c.in-Some.ensures.in_limits;
      below = below_next c.args.pass.now.trail.now c.args.places.now c.args.var c.args.low.now c.args.clause.now (to_z w64 c.loop.value-bits) c.loop.clause c.explain_value.new.clause c.requires.var c.loop.invariant.below here c.in-Some.next
          (λ v member above. c.in-Some.ensures.found.first v (subst (λ (s : IntSet). contains s v ≡ true) (sym c.declared-declared.ensures) member) above);
    })
