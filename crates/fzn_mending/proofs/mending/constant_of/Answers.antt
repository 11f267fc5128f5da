use Rattle.std.proofs.Common.{sym, ◌∙◌}
use Rattle.fzn_mending.proofs.WalkLemmas.{uncons-at, constant-step}
use Rattle.fzn_mending.proofs.mending.constant_of.Goals as goal

pub loop-tokens-preserved : goal.loop-tokens-preserved
loop-tokens-preserved c =
    let tokens = c.loop-tokens.tokens.now in
    let bytes = c.args.bytes.now in
    constant-step c.args.params.now bytes c.loop-tokens.seen c.next-seen.result c.first_number-number.result tokens _ (uncons-at tokens _ c.in-len1-up.len_at_least) c.first_number-number.ensures (c.next-seen.ensures bytes)
    (sym (c.constant_at.ensures bytes) ∙ c.in_default-constant_at.is)
    ∙ c.loop-tokens.invariant
