use Rattle.fzn_cert.proofs.DerivationLaws.{one_derivation_lem}
use Rattle.fzn_cert.proofs.law.one_derivation.Goals as goal

pub returns : goal.returns
returns c = one_derivation_lem
