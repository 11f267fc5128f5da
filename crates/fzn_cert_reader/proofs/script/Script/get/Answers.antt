use Rattle.fzn_cert.specs.declared.step.Version.TheVariants.{Two}
use Rattle.fzn_cert_line.proofs.CallerLemmas.{found_step}
use Rattle.fzn_cert_reader.proofs.script.Script.get.Goals as goal

pub returns-in-Some-clause-spelled : goal.returns-in-Some-clause-spelled
returns-in-Some-clause-spelled c = found_step Two c.in-Some.line.now c.read_line.result c.read_line.ensures
