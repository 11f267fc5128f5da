use Rattle.std.proofs.Common.{length, sym, subst}
use Rattle.std.specs.List.{All}
use Rattle.fzn_values.specs.Entries.{IsIndex}
use Rattle.fzn_circuit.proofs.ways.starts_of.Goals as goal
use Rattle.fzn_circuit.proofs.ways.starts_of.Goals.{then-is_free+then-comes_back+in_ok-add_start, else-is_free, then-is_led+then-comes_back-2+in_ok-add_start-2, else-is_led}

pub loop-k-preserved : goal.loop-k-preserved
loop-k-preserved c =
    elim c.if-is_free.branch [
      | then-is_free+then-comes_back+in_ok-add_start w ↦ subst (All (IsIndex (length c.args.pass.now.successors.now))) (sym w.starts-is) w.in_ok-add_start.ensures
      | else-is_free w ↦ subst (All (IsIndex (length c.args.pass.now.successors.now))) (sym w.starts-is) c.loop-k.invariant
    ]

pub loop-k-2-preserved : goal.loop-k-2-preserved
loop-k-2-preserved c =
    elim c.if-is_led.branch [
      | then-is_led+then-comes_back-2+in_ok-add_start-2 w ↦ subst (All (IsIndex (length c.args.pass.now.successors.now))) (sym w.starts-is) w.in_ok-add_start-2.ensures
      | else-is_led w ↦ subst (All (IsIndex (length c.args.pass.now.successors.now))) (sym w.starts-is) c.loop-k-2.invariant
    ]
