use Rattle.std.proofs.Common.{◌≡◌, ◌*◌, ◌^◌, take, length}
use Rattle.fzn_values.specs.Cumulative.{tasks}
use Rattle.fzn_values.specs.LoadProfile.{IsProfile, AreWithin}
use Rattle.fzn_values.proofs.load_profile.add_tasks.Given as goal

abbrev pub invariant-loop-task : goal.invariant-loop-task
invariant-loop-task g l = record {
  length : length l.changes ≡ g.row.N;
  profile : IsProfile l.times (tasks (take l.task l.starts) (take l.task l.durations) (take l.task l.uses)) l.changes;
  bound : AreWithin (l.task * 2 ^ 64) l.changes;
}
