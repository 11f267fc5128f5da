use Rattle.std.proofs.Common.{◌≡◌, take}
use Rattle.fzn_core.proofs.trial.are_same.Given as goal

abbrev pub invariant-loop-i : goal.invariant-loop-i
invariant-loop-i l = take l.i l.found ≡ take l.i l.wanted
