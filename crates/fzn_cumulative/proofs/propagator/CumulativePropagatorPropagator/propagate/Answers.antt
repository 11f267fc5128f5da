use Rattle.std.proofs.lemmas.Result.{on_ok_weaker}
use Rattle.fzn_cumulative.proofs.PropagatorLemmas.{exhausted}
use Rattle.fzn_cumulative.proofs.propagator.CumulativePropagatorPropagator.propagate.Goals as goal

pub find_all-requires : goal.find_all-requires
find_all-requires c = rw (c.as_slice.ensures, c.as_slice-2.ensures, c.as_slice-3.ensures) (record { before = record { all = c.requires.before } })

pub returns-clause-found : goal.returns-clause-found
returns-clause-found c = (rw (c.as_slice.ensures, c.as_slice-2.ensures, c.as_slice-3.ensures) at c.find_all.ensures.found).all

pub returns-clause-none : goal.returns-clause-none
returns-clause-none c =
    on_ok_weaker c.find_all.result
    (λ none empty given same booleans. exhausted c.args.trail.now c.args.self.now.tasks (none empty) given same)
    (rw (c.as_slice.ensures, c.as_slice-2.ensures, c.as_slice-3.ensures) at c.find_all.ensures.none)
