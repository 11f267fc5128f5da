use Rattle.std.proofs.Common.{◌≡◌, ℕ, ◌<◌, length, get_or, ℤ}
use Rattle.fzn_levels.proofs.ByWeightLemmas.{Weighs}
use Rattle.fzn_levels.proofs.by_weight.have_places.Given as goal

abbrev pub invariant-loop-i : goal.invariant-loop-i
invariant-loop-i l = (k : ℕ) (w : ℤ) → k < l.i → Weighs l.part l.listed k w → (get_or l.places k 0 < length l.order) × (get_or l.order (get_or l.places k 0) 0 ≡ k)
