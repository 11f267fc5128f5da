use Rattle.fzn_cert_reader.proofs.HeaderLaws.{head_found, head_none}
use Rattle.fzn_cert_reader.proofs.header.head_of_line.Goals as goal

pub returns-clause-found : goal.returns-clause-found
returns-clause-found c = head_found c.args.line.now c.read_head.result c.read_head.ensures

pub returns-clause-none : goal.returns-clause-none
returns-clause-none c = head_none c.args.line.now c.read_head.result c.read_head.ensures
