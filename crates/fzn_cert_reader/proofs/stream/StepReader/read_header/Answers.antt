use Rattle.fzn_cert_reader.specs.Input.{left_in}
use Rattle.fzn_cert_reader.proofs.ToldLaws.{no_header_first, no_header_second}
use Rattle.fzn_cert_reader.proofs.stream.StepReader.read_header.Goals as goal

pub returns-in-Err-clause-untold : goal.returns-in-Err-clause-untold
returns-in-Err-clause-untold g c =
    no_header_first (left_in g.R.Read.remaining c.args.self.now.lines.bytes) (left_in g.R.Read.remaining c.read_version.new.self.bytes) c.in-Err.ensures.untold

pub returns-in-Err-read_counts-clause-untold : goal.returns-in-Err-read_counts-clause-untold
returns-in-Err-read_counts-clause-untold g c =
    no_header_second (left_in g.R.Read.remaining c.args.self.now.lines.bytes) (left_in g.R.Read.remaining c.read_version.new.self.bytes) (left_in g.R.Read.remaining c.read_counts.new.self.bytes) c.in-Ok.version
    c.in-Ok.ensures.ok c.in-Err-read_counts.ensures.untold
