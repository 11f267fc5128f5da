use Rattle.fzn_checker_tests.proofs.HeldLemmas.{held-proper}
use Rattle.fzn_checker_tests.proofs.printer.both.Goals as goal

pub returns-clause-proper : goal.returns-clause-proper
returns-clause-proper c = held-proper c.args.model.now c.hold_certificate.new.model _ c.hold_certificate.result c.hold_certificate.ensures.formed c.hold_certificate.ensures.ok
