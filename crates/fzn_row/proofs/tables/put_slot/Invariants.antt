use Rattle.std.proofs.Common.{◌≡◌, ◌-◌, ◌+◌, ℕ, length, slice_index_or}
use Rattle.fzn_row.proofs.tables.put_slot.Given as goal

abbrev pub invariant-loop-slots : goal.invariant-loop-slots
invariant-loop-slots l = (k : ℕ) → slice_index_or l.slots.items k 0 ≡ slice_index_or l.initial.slots.items k 0

abbrev pub decreases-loop-slots : goal.decreases-loop-slots
decreases-loop-slots l = l.number + 1 - length l.slots.items
