use Rattle.std.proofs.Common.{ap, ◌∙◌, rules}
use Rattle.fzn_checker.proofs.RewriteLemmas.{rewrite_fault-same}
use Rattle.fzn_checker.proofs.rewrite.to2.Goals as goal

-- the streams below are those that were given
pub returns-clause-err : goal.returns-clause-err
returns-clause-err g c =
    rewrite_fault-same c.to2_tracked.result _ _ _ _ _ _ (c.new-lines.ensures.fresh ∙ ap g.C.Read.remaining c.new.ensures.input) (ap g.W.Write.contents c.new-new.ensures.same) (search rules) c.to2_tracked.ensures.err
