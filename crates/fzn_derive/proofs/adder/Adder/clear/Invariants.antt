use Rattle.std.proofs.Common.{◌≡◌, ◌⊎◌, ℕ, length, drop, get_or}
use Rattle.std.specs.List.{Contains}
use Rattle.fzn_derive.specs.Room.{blank}
use Rattle.fzn_derive.proofs.adder.Adder.clear.Given as goal

abbrev pub invariant-loop-i : goal.invariant-loop-i
invariant-loop-i l = record {
  len : length l.self.cells.items ≡ length l.fn.self.cells.items;
  same : l.self.touched.items ≡ l.fn.self.touched.items;
  left : (k : ℕ) → (get_or l.self.cells.items k blank ≡ blank) ⊎ Contains (drop l.i l.self.touched.items) k;
}
