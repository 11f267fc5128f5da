use Rattle.fzn_linear.proofs.PassLemmas.{adds_both, ok_then}
use Rattle.fzn_linear.proofs.side.Side.keep.Goals as goal

pub returns-clause-found : goal.returns-clause-found
returns-clause-found c = adds_both _ _ _ _ _ _ c.exceed.ensures.found c.force.ensures.found

pub returns-clause-none : goal.returns-clause-none
returns-clause-none c = ok_then c.force.result c.force.ensures.none (λ none empty. none empty (c.in_ok-exceed.ensures.none (c.force.ensures.found.kept empty)))
