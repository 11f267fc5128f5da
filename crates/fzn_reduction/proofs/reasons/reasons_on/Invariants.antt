use Rattle.std.proofs.Common.{All, take}
use Rattle.fzn_trail.specs.declared.trail.Entry.{Entry}
use Rattle.fzn_reduction.specs.Forgetting.{IsFlagged}
use Rattle.fzn_reduction.proofs.reasons.reasons_on.Given as goal

abbrev pub invariant-loop-i : goal.invariant-loop-i
invariant-loop-i l = All (λ (entry : Entry). IsFlagged l.flags.items entry.reason) (take l.i l.trail.entries)
