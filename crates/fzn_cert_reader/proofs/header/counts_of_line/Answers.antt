use Rattle.fzn_cert_reader.proofs.HeaderLaws.{counts_found, counts_none}
use Rattle.fzn_cert_reader.proofs.header.counts_of_line.Goals as goal

pub returns-clause-found : goal.returns-clause-found
returns-clause-found c = counts_found c.args.line.now c.read_counts.result c.read_counts.ensures

pub returns-clause-none : goal.returns-clause-none
returns-clause-none c = counts_none c.args.line.now c.read_counts.result c.read_counts.ensures
