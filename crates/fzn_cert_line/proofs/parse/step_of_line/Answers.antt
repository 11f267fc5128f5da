use Rattle.fzn_cert_line.proofs.LineLaws.{found_step, found_text, found_none}
use Rattle.fzn_cert_line.proofs.parse.step_of_line.Goals as goal

pub returns-clause-found : goal.returns-clause-found
returns-clause-found c = found_step c.args.version c.args.line.now c.read_line.result c.read_line.ensures

pub returns-clause-text : goal.returns-clause-text
returns-clause-text c = found_text c.args.version c.args.line.now c.read_line.result c.read_line.ensures

pub returns-clause-none : goal.returns-clause-none
returns-clause-none c = found_none c.args.version c.args.line.now c.read_line.result c.read_line.ensures
