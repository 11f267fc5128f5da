use Rattle.std.proofs.Common.{sym, subst}
use Rattle.fzn_circuit.specs.Passes.{AreFoundOfCircuit}
use Rattle.fzn_circuit.proofs.same.find_like.Goals as goal
use Rattle.fzn_circuit.proofs.same.find_like.Goals.{then-j-i+then-may_be+in_ok-find_pair, else-j-i}

pub loop-j-preserved : goal.loop-j-preserved
loop-j-preserved c =
    elim c.if-j-i.branch [
      | then-j-i+then-may_be+in_ok-find_pair w ↦ subst (AreFoundOfCircuit c.args.pass.now) (sym w.found-is) w.in_ok-find_pair.ensures.found
      | else-j-i w ↦ subst (AreFoundOfCircuit c.args.pass.now) (sym w.found-is) c.loop-j.invariant
    ]
