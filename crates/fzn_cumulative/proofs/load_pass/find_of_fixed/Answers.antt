use Rattle.std.proofs.Common.{length}
use Rattle.std.proofs.lemmas.Result.{on_ok_weaker}
use Rattle.fzn_cumulative.proofs.PropagatorLemmas.{not_fixed, meets_least, meets_kept}
use Rattle.fzn_cumulative.proofs.load_pass.find_of_fixed.Goals as goal
use Rattle.fzn_cumulative.specs.Passes.{tasks_of}
use Rattle.fzn_cumulative.proofs.load_pass.find_of_fixed.Goals.{then-not-are_fixed-via-then-not-are_fixed, then-not-are_fixed-via-else-not-are_fixed+then-not-are_fixed-2, then-not-are_fixed-via-else-not-are_fixed+else-not-are_fixed-2+then-not-are_fixed-3}

pub returns-then-not-are_fixed-clause-none : goal.returns-then-not-are_fixed-clause-none
returns-then-not-are_fixed-clause-none c = λ empty fixed values within.
    let trail = c.args.pass.now.trail.now in
    let tasks = tasks_of c.args.pass.now in
    let same = c.len-entries.ensures.narrower.one_each in
    let ready = c.args.pass.now.ready in
    absurd (elim c.then-not-are_fixed.branch [
      | then-not-are_fixed-via-then-not-are_fixed w ↦
          not_fixed trail.sets (length trail.declared) tasks.starts c.are_fixed.result same ready.starts.0 c.are_fixed.ensures.1 w.if-not-are_fixed.true values within fixed
      | then-not-are_fixed-via-else-not-are_fixed+then-not-are_fixed-2 w ↦
          not_fixed trail.sets (length trail.declared) tasks.durations w.are_fixed-else-not-are_fixed.result same ready.durations.0 w.are_fixed-else-not-are_fixed.ensures.1 w.if-not-are_fixed-2.true values within fixed
      | then-not-are_fixed-via-else-not-are_fixed+else-not-are_fixed-2+then-not-are_fixed-3 w ↦
          not_fixed trail.sets (length trail.declared) tasks.uses w.are_fixed-else-not-are_fixed-2.result same ready.uses.0 w.are_fixed-else-not-are_fixed-2.ensures.1 w.if-not-are_fixed-3.true values within fixed
    ])

pub returns-then-branch-clause-none : goal.returns-then-branch-clause-none
returns-then-branch-clause-none c = λ empty.
    meets_least c.args.pass.now.trail.now.sets (length c.args.pass.now.trail.now.declared) (tasks_of c.args.pass.now) c.args.pass.now.ready c.len-entries.ensures.narrower.one_each (c.in_ok-is_kept_at_least.ensures.0 c.if-branch.true)

pub returns-clause-none : goal.returns-clause-none
returns-clause-none c =
    on_ok_weaker c.find_at_starts.result
    (λ none empty. meets_kept c.args.pass.now.trail.now.sets (length c.args.pass.now.trail.now.declared) (tasks_of c.args.pass.now) c.args.pass.now.ready c.len-entries.ensures.narrower.one_each c.requires.none_below (none empty))
    c.find_at_starts.ensures.none
