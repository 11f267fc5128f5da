use Rattle.std.proofs.Common.{take}
use Rattle.std.specs.List.{All}
use Rattle.fzn_trail.specs.declared.trail.Entry.{Entry}
use Rattle.fzn_learned.specs.Reasoned.{IsBelow}
use Rattle.fzn_state.proofs.dropping.stack_len.Given as goal

abbrev pub invariant-loop-i : goal.invariant-loop-i
invariant-loop-i l = All (λ (entry : Entry). IsBelow l.len entry.reason) (take l.i l.trail.entries)
