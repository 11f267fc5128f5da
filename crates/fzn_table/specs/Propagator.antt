-- The ghost members of the propagator of a table.
use Rattle.std.specs.Prelude.{◌≡◌, ℕ, List, length}
use Rattle.fzn_domain.specs.IntSet.{IntSet}
use Rattle.fzn_meaning.specs.declared.constraint.Constraint.{Constraint}
use Rattle.fzn_meaning.specs.declared.constraint.Constraint.TheVariants.{Table}
use Rattle.fzn_meaning.specs.Meaning.{IsWellFormedConstraint}
use Rattle.fzn_table.specs.declared.propagator.TablePropagator.{TablePropagator}

abbrev pub table_number : TablePropagator → ℕ
table_number propagator = propagator.number

abbrev pub TableIsFor : TablePropagator → Constraint → Type 0
TableIsFor propagator constraint = Table propagator.places propagator.rows ≡ constraint

abbrev pub TableFits : TablePropagator → List IntSet → Type 0
TableFits propagator declared = IsWellFormedConstraint (length declared) (Table propagator.places propagator.rows)
