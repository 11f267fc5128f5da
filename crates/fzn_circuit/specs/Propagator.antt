-- The ghost members of the propagator of `fzn_circuit`.
use Rattle.std.specs.Prelude.{◌≡◌, ℕ, List, length}
use Rattle.fzn_domain.specs.IntSet.{IntSet}
use Rattle.fzn_meaning.specs.declared.constraint.Constraint.{Constraint}
use Rattle.fzn_meaning.specs.declared.constraint.Constraint.TheVariants.{Circuit}
use Rattle.fzn_meaning.specs.Meaning.{AreTerms}
use Rattle.fzn_circuit.specs.declared.propagator.CircuitPropagator.{CircuitPropagator}

abbrev pub circuit_number : CircuitPropagator → ℕ
circuit_number propagator = propagator.number

abbrev pub CircuitIsFor : CircuitPropagator → Constraint → Type 0
CircuitIsFor propagator constraint = Circuit propagator.successors ≡ constraint

abbrev pub CircuitFits : CircuitPropagator → List IntSet → Type 0
CircuitFits propagator declared = AreTerms (length declared) propagator.successors
