use Rattle.fzn_globals.proofs.DifferentLemmas.{open_met}
use Rattle.fzn_globals.proofs.all_different.bar_shared.Goals as goal

pub returns-then-has_open-clause-none : goal.returns-then-has_open-clause-none
returns-then-has_open-clause-none c = λ nothing. open_met c.args.pass.now.trail.now c.args.pass.now.places.now c.args.pass.now.fit (c.has_open.ensures c.if-has_open.true)
