use Rattle.std.proofs.Common.{◌≡◌, ◌+◌, ◌++◌, length, take, drop}
use Rattle.fzn_clauses.specs.Slots.{laid_out, total}
use Rattle.fzn_clauses.proofs.arena.lay_out.Given as goal

-- the slots before the place are laid out, and the others will be behind them
abbrev pub invariant-loop-i : goal.invariant-loop-i
invariant-loop-i l = record {
  laid : take l.i l.slots.items ++ laid_out l.offset (drop l.i l.slots.items) ≡ laid_out 0 l.fn.slots.items;
  room : l.offset + total (drop l.i l.slots.items) ≡ l.end;
  size : length l.slots.items ≡ length l.fn.slots.items;
}
