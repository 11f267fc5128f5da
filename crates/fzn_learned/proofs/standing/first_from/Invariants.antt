use Rattle.std.proofs.Common.{◌≡◌, ◌<◌, ◌≤◌, length}
use Rattle.fzn_trail.specs.Replay.{variable_at}
use Rattle.fzn_learned.proofs.standing.first_from.Given as goal

abbrev pub invariant-loop-older : goal.invariant-loop-older
invariant-loop-older l = record {
  in_list : l.at < length l.trail.entries;
  from : l.count ≤ l.at;
  same : variable_at l.trail.entries l.at ≡ variable_at l.trail.entries l.place;
}

abbrev pub decreases-loop-older : goal.decreases-loop-older
decreases-loop-older l = l.at
