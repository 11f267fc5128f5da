use Rattle.std.proofs.Common.{◌∙◌}
use Rattle.fzn_cert_line.proofs.SplitLaws.{words_of-line}
use Rattle.fzn_cert_line.proofs.words.words_of.Goals as goal

pub returns : goal.returns
returns c = c.split_str.ensures.value ∙ words_of-line c.args.line.now
