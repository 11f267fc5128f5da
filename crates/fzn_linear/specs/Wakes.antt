-- Which changes the propagator of a sum waits for.
use Rattle.std.specs.Prelude.{ℤ, pos, List, ◌++◌, Option, Some, None, flat_map, int_lt, if◌then◌else◌}
use Rattle.fzn_values.specs.declared.term.Term.{Term}
use Rattle.fzn_values.specs.declared.term.Place.{Place}
use Rattle.fzn_meaning.specs.declared.relation.Comparison.{Comparison}
use Rattle.fzn_meaning.specs.declared.relation.Comparison.TheVariants.{AtMost, Equal, NotEqual}
use Rattle.fzn_meaning.specs.declared.constraint.Constraint.{Constraint}
use Rattle.fzn_meaning.specs.declared.constraint.Constraint.TheVariants.{Compare, Arithmetic}
use Rattle.fzn_builtin_rules.specs.Form.{Form}
use Rattle.fzn_propagator.specs.declared.event.Event.{Event}
use Rattle.fzn_propagator.specs.declared.event.Event.TheVariants as event
use Rattle.fzn_propagator.specs.declared.subscriptions.Subscription.{Subscription}
use Rattle.fzn_propagator.specs.Subscriptions.{waits, waits_some}
use Rattle.fzn_linear.specs.declared.wake.Wake.{Wake}
use Rattle.fzn_linear.specs.declared.wake.Wake.TheVariants.{Rising, Each}
use Rattle.fzn_linear.specs.declared.sum.SumPropagator.{SumPropagator}

-- the changes of a term with this coefficient: where only a rise of the sum matters, those that may make it rise
abbrev pub event_at : Wake → ℤ → Event
event_at Rising coefficient = if int_lt coefficient (pos 0) then event.High else event.Low
event_at (Each event) coefficient = event

-- where the sum is to be the bound
abbrev pub equal_event : Constraint → Event
equal_event (Compare relation left right switch) = event.Any
equal_event (Arithmetic operation left right result) = event.Any
equal_event _ = event.Bound

-- a sum that is at most its bound matters where it rises, one that differs from it where its terms are fixed
abbrev pub wake_for : Event → Comparison → Option Term → Wake
wake_for equal AtMost None = Rising
wake_for equal Equal None = Each equal
wake_for equal NotEqual None = Each event.Fixed
wake_for equal AtMost (Some switch) = Each event.Bound
wake_for equal Equal (Some switch) = Each event.Any
wake_for equal NotEqual (Some switch) = Each event.Any

abbrev pub wake_of : Constraint → Form → Wake
wake_of constraint form = wake_for (equal_event constraint) form.comparison form.switch

abbrev pub place_waits : Wake → Place → List Subscription
place_waits wake place = waits (event_at wake place.coefficient) place.term

abbrev pub sum_subscriptions : SumPropagator → List Subscription
sum_subscriptions propagator = flat_map (place_waits propagator.wake) propagator.form.places ++ waits_some event.Any propagator.form.switch
