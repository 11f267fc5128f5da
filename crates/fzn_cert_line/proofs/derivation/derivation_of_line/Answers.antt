use Rattle.fzn_cert_line.proofs.DerivationLaws.{found_derivation, found_text, found_none}
use Rattle.fzn_cert_line.proofs.derivation.derivation_of_line.Goals as goal

pub returns-clause-found : goal.returns-clause-found
returns-clause-found c = found_derivation c.args.line.now c.read_derivation.result c.read_derivation.ensures

pub returns-clause-text : goal.returns-clause-text
returns-clause-text c = found_text c.args.line.now c.read_derivation.result c.read_derivation.ensures

pub returns-clause-none : goal.returns-clause-none
returns-clause-none c = found_none c.args.line.now c.read_derivation.result c.read_derivation.ensures
