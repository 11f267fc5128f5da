use Rattle.std.proofs.Common.{arith, subst}
use Rattle.fzn_domain.proofs.DomainLemmas.{real}
use Rattle.fzn_terms.specs.Values.{HasOther, place_at}
use Rattle.fzn_globals.proofs.all_different.has_open.Goals as goal

pub returns-then-has_other : goal.returns-then-has_other
returns-then-has_other c = λ told. (c.loop-k.k, omega (arith, c.loop-k-test.true, c.loop-k.auto.k-end), (c.least_of-value.result, c.least_of-value.ensures.member, subst (HasOther c.args.pass.now.trail.now.sets (place_at c.args.pass.now.places.now c.loop-k.k)) (real _ c.least_of-value.ensures.in_limits) (c.has_other.ensures.other c.if-has_other.true)))
