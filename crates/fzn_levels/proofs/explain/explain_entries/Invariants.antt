use Rattle.fzn_terms.specs.Denied.{IsGrown}
use Rattle.fzn_levels.proofs.LevelLemmas.{AreBefore, entry_said}
use Rattle.fzn_levels.proofs.explain.explain_entries.Given as goal

abbrev pub invariant-loop-i : goal.invariant-loop-i
invariant-loop-i l = IsGrown l.pass.trail.now (AreBefore (entry_said l.part l.listed l.level) l.i) l.fn.clause l.clause
