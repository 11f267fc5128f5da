-- Intervals in which too many places lie.
use Rattle.std.specs.Prelude.{Bool, cond, not, ◌&&◌, ℕ, ℤ, pos, ◌-ℤ◌, ◌<ℤ◌, int_le, List, map, filter}
use Rattle.std.specs.List.{count_by}
use Rattle.fzn_intervals.specs.declared.ends.Interval.{Interval}
use Rattle.fzn_intervals.specs.declared.ends.Ends.{Ends}

-- whether the number is one of the interval
abbrev pub lies_in : Interval → ℤ → Bool
lies_in interval number = int_le interval.low number && int_le number interval.high

-- whether both ends of a place are
abbrev pub is_within : Interval → Ends → Bool
is_within interval ends = lies_in interval ends.low && lies_in interval ends.high

-- whether one end is, and the other is not
abbrev pub is_moved : Interval → Ends → Bool
is_moved interval ends = cond (lies_in interval ends.low) (not (lies_in interval ends.high)) (lies_in interval ends.high)

-- the places of which one end is, and the other is not
abbrev pub moved_in : Interval → List Ends → List ℕ
moved_in interval places = map (λ (ends : Ends). ends.place) (filter (is_moved interval) places)

-- at least as many places lie in the interval as it has numbers
abbrev pub IsFull : List Ends → Interval → Type 0
IsFull places interval = (interval.high -ℤ interval.low) <ℤ pos (count_by (is_within interval) places)
