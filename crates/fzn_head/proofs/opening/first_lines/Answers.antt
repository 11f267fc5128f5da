-- The two lines as they are written.
use Rattle.std.proofs.Common.{◌∙◌}
use Rattle.fzn_head.proofs.HeadLaws.{head_text_is}
use Rattle.fzn_head.proofs.opening.first_lines.Goals as goal

pub returns : goal.returns
returns c = c.in_ok-format.ensures.ok ∙ head_text_is c.args.variables c.args.constraints c.args.derived
