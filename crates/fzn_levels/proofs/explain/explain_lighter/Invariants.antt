use Rattle.std.proofs.Common.{◌-◌, ◌≤◌, length}
use Rattle.fzn_terms.specs.Denied.{IsGrown}
use Rattle.fzn_levels.proofs.LevelLemmas.{AreBefore, entry_said}
use Rattle.fzn_levels.proofs.explain.explain_lighter.Given as goal

abbrev pub invariant-loop-i : goal.invariant-loop-i
invariant-loop-i l = record {
  grown : IsGrown l.pass.trail.now (AreBefore (entry_said l.part l.listed l.level) l.i) l.fn.clause l.clause;
  within : l.i ≤ length l.listed.weights;
}

abbrev pub decreases-loop-i : goal.decreases-loop-i
decreases-loop-i l = l.end - l.i
