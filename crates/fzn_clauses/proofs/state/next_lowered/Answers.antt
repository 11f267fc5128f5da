use Rattle.std.proofs.Common.{pos, ◌+ℤ◌, FitsSigned, w64, rules, arith, to_z-of_z}
use Rattle.std.proofs.lemmas.Int.{ints}
use Rattle.fzn_domain.proofs.DomainLemmas.{real}
use Rattle.fzn_clauses.proofs.SpareLemmas.{SparesUpTo-lowered}
use Rattle.fzn_clauses.proofs.state.next_lowered.Goals as goal

pub returns : goal.returns
returns c now =
    let fits : FitsSigned w64 c.args.lit.value = search rules in
    let value = to_z-of_z fits in
    let max = real _ c.max.ensures.in_limits in
    SparesUpTo-lowered c.args.before.now now c.args.lit c.requires.op (c.max.result +ℤ pos 1)
    (λ v inside. let most = c.max.ensures.last v inside in omega (arith, ints))
    c.args.from c.next_between.result c.requires.from c.next_between.ensures.later c.next_between.ensures.within
    (λ v over under. c.next_between.ensures.passed v (omega (arith, ints, over, value)) (omega (arith, ints, under, max, c.max.ensures.in_limits)))
