use Rattle.fzn_circuit.proofs.SameLemmas.{open_different}
use Rattle.fzn_circuit.proofs.same.find_same.Goals as goal

pub returns-then-has_open-clause-none : goal.returns-then-has_open-clause-none
returns-then-has_open-clause-none c = λ empty. open_different c.args.pass.now.trail.now.sets c.args.pass.now.successors.now (c.has_open.ensures c.if-has_open.true)
