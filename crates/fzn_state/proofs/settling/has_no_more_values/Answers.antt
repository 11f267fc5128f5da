-- Each set was compared.
use Rattle.std.proofs.Common.{sym, ◌∙◌, arith}
use Rattle.fzn_state.proofs.SettlingLemmas.{slack-pointwise}
use Rattle.fzn_state.proofs.settling.has_no_more_values.Goals as goal

pub returns : goal.returns
returns c _ =
    let one = c.len.ensures.narrower.one_each in
    let other = c.len-2.ensures.narrower.one_each in
    slack-pointwise c.args.one.now.sets c.args.other.now.sets (one ∙ sym c.requires.one ∙ c.requires.other ∙ sym other)
    (λ k below. c.loop-i.invariant k (omega (arith, below, one, c.requires.one, c.loop-i-test.false)))
