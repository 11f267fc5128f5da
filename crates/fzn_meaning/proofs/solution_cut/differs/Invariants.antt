use Rattle.std.proofs.Common.{◌≡◌, take}
use Rattle.fzn_meaning.specs.declared.model.Goal.TheVariants.{Satisfy}
use Rattle.fzn_meaning.specs.Solutions.{cut_for}
use Rattle.fzn_meaning.proofs.solution_cut.differs.Given as goal

abbrev pub invariant-loop-var : goal.invariant-loop-var
invariant-loop-var l = l.clause ≡ cut_for Satisfy (take l.var-index l.outputs) l.values
