use Rattle.std.proofs.Common.{◌≡◌, ℕ, ◌+◌, ◌<◌, get_or, pos}
use Rattle.fzn_values.specs.Entries.{entry_at}
use Rattle.fzn_values.proofs.inverse.leads_back.Given as goal

abbrev pub invariant-loop-place : goal.invariant-loop-place
invariant-loop-place l = (k : ℕ) → k < l.place → entry_at l.back (get_or l.from k (pos 0)) ≡ pos (k + 1)
