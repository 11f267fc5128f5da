-- The ghost members of the propagator of a row.
use Rattle.std.specs.Prelude.{◌≡◌, ℕ, pos, Bool, true, false, int_lt, List, length, Option, None, Some}
use Rattle.std.specs.List.{flat_map}
use Rattle.fzn_domain.specs.IntSet.{IntSet}
use Rattle.fzn_values.specs.declared.term.Term.TheVariants.{Variable}
use Rattle.fzn_meaning.specs.declared.row.Listed.{Listed}
use Rattle.fzn_meaning.specs.declared.row.VariablePart.{VariablePart}
use Rattle.fzn_meaning.specs.declared.row.Part.{Part}
use Rattle.fzn_meaning.specs.declared.row.Part.TheVariants as parts
use Rattle.fzn_meaning.specs.declared.constraint.Constraint.{Constraint}
use Rattle.fzn_meaning.specs.declared.constraint.Constraint.TheVariants.{Row}
use Rattle.fzn_meaning.specs.Separable.{IsSeparableRow}
use Rattle.fzn_propagator.specs.declared.event.Event.{Event}
use Rattle.fzn_propagator.specs.declared.event.Event.TheVariants.{Any, Low, High}
use Rattle.fzn_propagator.specs.declared.subscriptions.Subscription.{Subscription}
use Rattle.fzn_propagator.specs.Subscriptions.{waits, waits_each}
use Rattle.fzn_separable.specs.declared.propagator.RowPropagator.{RowPropagator}

abbrev pub row_number : RowPropagator → ℕ
row_number propagator = propagator.number

abbrev pub RowIsFor : RowPropagator → Constraint → Type 0
RowIsFor propagator constraint = Row propagator.row ≡ constraint

abbrev pub RowFits : RowPropagator → List IntSet → Type 0
RowFits propagator declared = IsSeparableRow (length declared) propagator.row

-- which change of a variable can raise what its part weighs at least: any where values are listed, else that the end moves at which its
-- coefficient makes the value weigh least
abbrev pub event_by : Option Listed → Bool → Event
event_by (Some listed) negative = Any
event_by None true = High
event_by None false = Low

abbrev pub event_of : VariablePart → Event
event_of part = event_by part.listed (int_lt part.coefficient (pos 0))

-- so it is waited for the part's variable, or for any change of each place of its table
abbrev pub waits_for_part : Part → List Subscription
waits_for_part (parts.Variable variable) = waits (event_of variable) (Variable variable.var)
waits_for_part (parts.Table table) = waits_each Any table.places

abbrev pub waits_for : List Part → List Subscription
waits_for parts = flat_map waits_for_part parts
