use Rattle.std.proofs.Common.{◌≡◌, length}
use Rattle.fzn_sets.proofs.sets.Sets.restore.Given as goal

abbrev pub invariant-loop-self : goal.invariant-loop-self
invariant-loop-self l = l.self.declared ≡ l.fn.self.declared

abbrev pub decreases-loop-self : goal.decreases-loop-self
decreases-loop-self l = length l.self.lits
