use Rattle.std.proofs.Common.{ℕ, ◌<◌, get_or, pos}
use Rattle.fzn_rules.specs.Cut.{LeadsInto}
use Rattle.fzn_sets.specs.Terms.{term_at}
use Rattle.fzn_rules.proofs.cut.lead_into.Given as goal

abbrev pub invariant-loop-place : goal.invariant-loop-place
invariant-loop-place l = (k : ℕ) → k < l.place-index → LeadsInto l.sets.present l.places (term_at l.successors (get_or l.places k (pos 0)))
