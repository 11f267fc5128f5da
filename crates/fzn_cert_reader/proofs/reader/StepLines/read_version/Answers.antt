use Rattle.fzn_cert_reader.specs.Input.{left_in}
use Rattle.fzn_cert_reader.proofs.ToldLaws.{no_version_line}
use Rattle.fzn_cert_reader.proofs.reader.StepLines.read_version.Goals as goal

-- another line was taken
pub returns-in-None-clause-untold : goal.returns-in-None-clause-untold
returns-in-None-clause-untold g c =
    no_version_line (left_in g.R.Read.remaining c.args.self.now.bytes) (left_in g.R.Read.remaining c.next_line.new.bytes) c.next_line.new.line.items c.deref.result.now c.deref.ensures.value
    (rw c.in-Whole.is at c.in_ok-next_line.ensures.taken) c.in_ok-next_line.ensures.inside c.in-None.ensures.none
