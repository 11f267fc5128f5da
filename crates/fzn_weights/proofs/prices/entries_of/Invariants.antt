use Rattle.std.proofs.Common.{◌≡◌, take}
use Rattle.fzn_weights.specs.Prices.{entries_from}
use Rattle.fzn_weights.proofs.prices.entries_of.Given as goal

abbrev pub invariant-loop-i : goal.invariant-loop-i
invariant-loop-i l = l.entries ≡ entries_from l.low (take l.i l.prices) l.old
