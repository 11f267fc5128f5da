use Rattle.fzn_terms.specs.Denied.{IsGrown}
use Rattle.fzn_levels.proofs.LevelLemmas.{AreNoLighterBefore}
use Rattle.fzn_levels.proofs.explain.explain_levels.Given as goal

abbrev pub invariant-loop-k : goal.invariant-loop-k
invariant-loop-k l = IsGrown l.pass.trail.now (AreNoLighterBefore l.k l.except l.pass.row.now.parts l.levels) l.fn.clause l.clause
