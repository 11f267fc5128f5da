use Rattle.fzn_cert.proofs.OneVerdict.{one_verdict_lem}
use Rattle.fzn_cert.proofs.law.one_verdict.Goals as goal

pub returns : goal.returns
returns c = one_verdict_lem
