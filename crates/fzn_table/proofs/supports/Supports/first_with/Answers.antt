use Rattle.std.proofs.Common.{arith, sym, subst}
use Rattle.fzn_table.specs.Chains.{IsChainedAt}
use Rattle.fzn_table.proofs.supports.Supports.first_with.Goals as goal

pub returns-then-place-len : goal.returns-then-place-len
returns-then-place-len c = λ places rows all.
    let below = c.if-place-len.true in
    let len = c.len.ensures in
    c.first.ensures places rows c.args.place (subst (IsChainedAt places rows c.args.place) (sym c.index.ensures) (all c.args.place c.index.result.now (omega (arith, below, len))))
