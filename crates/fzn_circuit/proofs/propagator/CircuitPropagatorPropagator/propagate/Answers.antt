use Rattle.fzn_circuit.proofs.propagator.CircuitPropagatorPropagator.propagate.Goals as goal

pub find_all-requires : goal.find_all-requires
find_all-requires c = rw c.as_slice.ensures (record { before = record { all = c.requires.before } })

pub returns-clause-found : goal.returns-clause-found
returns-clause-found c = (rw c.as_slice.ensures at c.find_all.ensures.found).all

pub returns-clause-none : goal.returns-clause-none
returns-clause-none c = rw c.as_slice.ensures at c.find_all.ensures.none
