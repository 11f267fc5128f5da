-- The ghost members of the propagator of `fzn_cumulative`.
use Rattle.std.specs.Prelude.{◌≡◌, ℕ, List, length}
use Rattle.fzn_domain.specs.IntSet.{IntSet}
use Rattle.fzn_meaning.specs.declared.constraint.Constraint.{Constraint}
use Rattle.fzn_cumulative.specs.Loads.{AreReady, cumulative_of}
use Rattle.fzn_cumulative.specs.declared.propagator.CumulativePropagator.{CumulativePropagator}

abbrev pub cumulative_number : CumulativePropagator → ℕ
cumulative_number propagator = propagator.number

abbrev pub CumulativeIsFor : CumulativePropagator → Constraint → Type 0
CumulativeIsFor propagator constraint = cumulative_of propagator.tasks ≡ constraint

abbrev pub CumulativeFits : CumulativePropagator → List IntSet → Type 0
CumulativeFits propagator declared = AreReady (length declared) propagator.tasks
