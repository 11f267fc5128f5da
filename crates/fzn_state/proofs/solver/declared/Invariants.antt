use Rattle.std.proofs.Common.{◌≡◌, take}
use Rattle.fzn_meaning.specs.Solutions.{declared_sets}
use Rattle.fzn_state.proofs.solver.declared.Given as goal

abbrev pub invariant-loop-var : goal.invariant-loop-var
invariant-loop-var l = l.declared.items ≡ declared_sets (take l.var-index l.vars)
