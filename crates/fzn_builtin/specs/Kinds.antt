-- The ghost members of the propagator of any kind.
use Rattle.std.specs.Prelude.{◌≡◌, ℕ, List, length}
use Rattle.fzn_domain.specs.IntSet.{IntSet}
use Rattle.fzn_meaning.specs.declared.constraint.Constraint.{Constraint}
use Rattle.fzn_builtin.specs.declared.kinds.BuiltinPropagator.{BuiltinPropagator}
use Rattle.fzn_fixed.specs.Parts.{ArePartsReady}

abbrev pub builtin_number : BuiltinPropagator → ℕ
builtin_number propagator = propagator.number

abbrev pub BuiltinIsFor : BuiltinPropagator → Constraint → Type 0
BuiltinIsFor propagator constraint = propagator.parts.constraint ≡ constraint

abbrev pub BuiltinFits : BuiltinPropagator → List IntSet → Type 0
BuiltinFits propagator declared = ArePartsReady (length declared) propagator.parts
