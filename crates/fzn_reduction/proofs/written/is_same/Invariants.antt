use Rattle.std.proofs.Common.{◌≡◌, take}
use Rattle.fzn_reduction.proofs.written.is_same.Given as goal

-- the literals so far are the same
abbrev pub invariant-loop-i : goal.invariant-loop-i
invariant-loop-i l = take l.i l.one ≡ take l.i l.other
