-- How a set changes, and which changes an event stands for.
use Rattle.std.specs.Prelude.{true, not, Bool, ◌||◌, nat_eq}
use Rattle.std.specs.Ordering.{int_eq}
use Rattle.fzn_domain.specs.IntSet.{IntSet, size, least, greatest}
use Rattle.fzn_propagator.specs.declared.event.Change.{Change}
use Rattle.fzn_propagator.specs.declared.event.Event.{Event}
use Rattle.fzn_propagator.specs.declared.event.Event.TheVariants.{Any, Bound, Low, High, Fixed}

-- some of the two has no value
abbrev pub is_either_empty : IntSet → IntSet → Bool
is_either_empty before present = nat_eq (size present) 0 || nat_eq (size before) 0

-- what became of the first set, of which the other is left; where either has no value, everything
abbrev pub change_between : IntSet → IntSet → Change
change_between before present = record {
  low = is_either_empty before present || not (int_eq (least present) (least before));
  high = is_either_empty before present || not (int_eq (greatest present) (greatest before));
  fixed = is_either_empty before present || int_eq (least present) (greatest present);
}

-- whether a change is one of these
abbrev pub is_among : Event → Change → Bool
is_among Any change = true
is_among Bound change = change.low || change.high
is_among Low change = change.low
is_among High change = change.high
is_among Fixed change = change.fixed
