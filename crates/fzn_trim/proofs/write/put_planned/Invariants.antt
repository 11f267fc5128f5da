use Rattle.std.proofs.Common.{◌≡◌, take}
use Rattle.std.specs.List.{flat_map}
use Rattle.std.specs.Io.KnownBytes.{Appends}
use Rattle.fzn_cert.specs.Spelling.{step_line}
use Rattle.fzn_core.specs.Planned.{planned_step}
use Rattle.fzn_trim.proofs.write.put_planned.Given as goal

abbrev pub invariant-loop-place : goal.invariant-loop-place
invariant-loop-place g l = record {
  text : Appends (g.W.Write.contents l.initial.new) (g.W.Write.contents l.new) (flat_map (λ line. step_line (planned_step l.plan l.held line)) (take l.place l.plan.lines.items));
  same : g.W.TrackedWrite.stream l.new ≡ g.W.TrackedWrite.stream l.initial.new;
}
