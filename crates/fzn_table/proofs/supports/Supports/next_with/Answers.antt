use Rattle.std.proofs.Common.{arith, sym, subst}
use Rattle.fzn_table.specs.Chains.{IsChainedAt}
use Rattle.fzn_table.proofs.supports.Supports.next_with.Goals as goal

pub returns-then-place-len-clause-between : goal.returns-then-place-len-clause-between
returns-then-place-len-clause-between c = λ places rows all.
    let below = c.if-place-len.true in
    let len = c.len.ensures in
    c.next.ensures.between places rows c.args.place (subst (IsChainedAt places rows c.args.place) (sym c.index.ensures) (all c.args.place c.index.result.now (omega (arith, below, len))))
