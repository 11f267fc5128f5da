use Rattle.std.proofs.Common.{◌≡◌, ◌≤◌, ◌⊎◌, length, take}
use Rattle.fzn_trail.proofs.assertions.Assertions.truncate.Given as goal

abbrev pub invariant-loop-self : goal.invariant-loop-self
invariant-loop-self l = ((length l.self.entries ≡ length l.fn.self.entries) ⊎ (l.count ≤ length l.self.entries)) × (l.self ≡ record l.fn.self { entries = take (length l.self.entries) l.fn.self.entries })

abbrev pub decreases-loop-self : goal.decreases-loop-self
decreases-loop-self l = length l.self.entries
