use Rattle.std.proofs.Common.{◌≡◌, ℕ, ◌<◌, pos, get_or, length, FitsSigned, w64}
use Rattle.fzn_values.proofs.load_profile.put_in_order.Given as goal

abbrev pub invariant-loop-place : goal.invariant-loop-place
invariant-loop-place l = record {
  length : length l.times ≡ length l.block;
  written : (k : ℕ) → k < l.place → get_or l.times k (pos 0) ≡ get_or l.block k (pos 0);
  fits : (k : ℕ) → k < l.place → FitsSigned w64 (get_or l.block k (pos 0));
}
