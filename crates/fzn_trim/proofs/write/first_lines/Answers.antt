-- The two lines as they are written.
use Rattle.std.proofs.Common.{◌∙◌}
use Rattle.fzn_head.proofs.HeadLaws.{head_text_is}
use Rattle.fzn_trim.proofs.write.first_lines.Goals as goal

pub returns : goal.returns
returns c = c.in_ok-format.ensures.ok ∙ head_text_is c.args.head.variables c.args.head.constraints c.args.head.derived
