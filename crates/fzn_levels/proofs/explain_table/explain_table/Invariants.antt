use Rattle.fzn_terms.specs.Denied.{IsGrown}
use Rattle.fzn_levels.proofs.LevelLemmas.{AreBefore, row_said}
use Rattle.fzn_levels.proofs.explain_table.explain_table.Given as goal

abbrev pub invariant-loop-r : goal.invariant-loop-r
invariant-loop-r l = IsGrown l.pass.trail.now (AreBefore (row_said l.table l.level) l.r) l.fn.clause l.clause
