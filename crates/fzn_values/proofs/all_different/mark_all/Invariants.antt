use Rattle.std.proofs.Common.{◌≡◌, ℕ, ◌%◌, ◌<◌, true, false, get_or, length, pos, unsigned_abs}
use Rattle.fzn_values.proofs.all_different.mark_all.Given as goal

abbrev pub invariant-loop-place : goal.invariant-loop-place
invariant-loop-place l = record {
  length : length l.marks ≡ 16384;
  marked : (k : ℕ) → k < l.place → get_or l.marks (unsigned_abs (get_or l.block k (pos 0)) % 16384) false ≡ true;
}
