use Rattle.std.proofs.Common.{◌≡◌, ◌+◌, ◌≤◌, ◌++◌, length}
use Rattle.fzn_names.specs.Flags.{flagged}
use Rattle.fzn_names.proofs.flag.flagged.Given as goal

-- those so far, and those to come
abbrev pub invariant-loop-flags : goal.invariant-loop-flags
invariant-loop-flags l = record {
  built : l.vars ++ flagged l.number l.flags ≡ flagged 1 l.initial.flags;
  few : l.number + length l.flags ≤ 100001;
}

abbrev pub decreases-loop-flags : goal.decreases-loop-flags
decreases-loop-flags l = length l.flags
