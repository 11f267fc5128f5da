use Rattle.std.proofs.Common.{sym, subst}
use Rattle.fzn_cumulative.proofs.load_pass.find_pushes.Goals as goal
use Rattle.fzn_cumulative.specs.Passes.{AreFoundOfCumulative}
use Rattle.fzn_cumulative.proofs.load_pass.find_pushes.Goals.{in-Some+in_ok-find_push, in_default}

pub loop-k-preserved : goal.loop-k-preserved
loop-k-preserved c =
    elim c.match-time_for.branch [
      | in-Some+in_ok-find_push w ↦ subst (AreFoundOfCumulative c.args.pass.now) (sym w.found-is) w.in_ok-find_push.ensures
      | in_default w ↦ subst (AreFoundOfCumulative c.args.pass.now) (sym w.found-is) c.loop-k.invariant
    ]
