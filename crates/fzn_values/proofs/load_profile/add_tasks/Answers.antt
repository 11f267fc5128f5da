use Rattle.std.proofs.Common.{◌+◌, ◌*◌, ◌^◌, ◌≤◌, pos, unsigned_abs, length, sym, subst, ap, ◌∙◌, rules, arith}
use Rattle.std.proofs.lemmas.Int.{to_z-of_z}
use Rattle.std.proofs.lemmas.List.{length-replicate}
use Rattle.std.proofs.lemmas.List.Elements.{All-replicate}
use Rattle.fzn_values.specs.LoadProfile.{load_after, AreWithin}
use Rattle.fzn_values.proofs.LoadProfileLemmas.{IsProfile-more, AreWithin-more, load_after-none}
use Rattle.fzn_values.proofs.load_profile.add_tasks.Goals as goal
use mir.Syntax.{w64}
use mir.Val.{to_z, of_z, SFits}

pub loop-task-init : goal.loop-task-init
loop-task-init g c = record {
  length = ap length c.requires.none ∙ length-replicate g.row.N (pos 0);
  profile = λ k lt. ap (load_after (k + 1)) c.requires.none ∙ load_after-none (k + 1) g.row.N;
  bound = subst (AreWithin 0) (sym c.requires.none) (All-replicate (λ x. unsigned_abs x ≤ 0) g.row.N (pos 0) (omega arith));
}

-- one more task
pub loop-task-preserved : goal.loop-task-preserved
loop-task-preserved g c =
    let s : SFits w64 c.get.result = search rules in
    let d : SFits w64 c.get-in-loop-task.result = search rules in
    let r : SFits w64 c.get-in-loop-task-2.result = search rules in
    record {
      length = omega arith;
      profile =
          IsProfile-more c.args.times.now c.args.starts.now c.args.durations.now c.args.uses.now c.loop-task.changes c.add_task.new.changes c.loop-task.task
          (to_z w64 (of_z w64 c.get.result)) (to_z w64 (of_z w64 c.get-in-loop-task.result)) (to_z w64 (of_z w64 c.get-in-loop-task-2.result))
          (omega arith) (sym c.requires.tasks.has_durations) (sym c.requires.tasks.has_uses)
          (to_z-of_z w64 c.get.result s ∙ c.get.ensures) (to_z-of_z w64 c.get-in-loop-task.result d ∙ c.get-in-loop-task.ensures) (to_z-of_z w64 c.get-in-loop-task-2.result r ∙ c.get-in-loop-task-2.ensures)
          c.loop-task.invariant.profile c.add_task.ensures.used;
      bound = AreWithin-more (c.loop-task.task * 2 ^ 64 + 2 ^ 64) ((c.loop-task.task + 1) * 2 ^ 64) c.add_task.new.changes (omega arith) (c.add_task.ensures.bound (c.loop-task.task * 2 ^ 64) c.loop-task.invariant.bound);
    }
