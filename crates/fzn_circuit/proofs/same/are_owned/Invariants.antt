use Rattle.std.proofs.Common.{◌≡◌, ℕ, ◌<◌, get_or, pos}
use Rattle.fzn_values.specs.declared.term.Term.TheVariants.{Constant}
use Rattle.fzn_sets.specs.Terms.{least_value}
use Rattle.fzn_circuit.specs.Circuits.{owner_of}
use Rattle.fzn_circuit.proofs.same.are_owned.Given as goal

abbrev pub invariant-loop-k : goal.invariant-loop-k
invariant-loop-k l = (i : ℕ) → i < l.k → owner_of l.owners (least_value l.pass.trail.now.sets (get_or l.pass.successors.now i (Constant (pos 0)))) ≡ i
