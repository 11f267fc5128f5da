use Rattle.std.proofs.Common.{take}
use Rattle.std.specs.List.{All}
use Rattle.fzn_cert.specs.Past.{IsClauseHeld}
use Rattle.fzn_checker.proofs.chain.are_held.Given as goal

abbrev pub invariant-loop-id : goal.invariant-loop-id
invariant-loop-id l = All (IsClauseHeld l.history) (take l.id-index l.ids)
