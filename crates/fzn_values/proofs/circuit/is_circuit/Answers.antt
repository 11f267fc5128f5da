use Rattle.std.proofs.Common.{length, rules}
use Rattle.std.specs.List.{All}
use Rattle.fzn_values.specs.Entries.{IsIndex}
use Rattle.fzn_values.proofs.ReturnLemmas.{circuit_from_return, return_from_circuit}
use Rattle.fzn_values.proofs.circuit.is_circuit.Goals as goal

-- a way that returns with its last step alone has been everywhere
pub returns-then-are_indices : goal.returns-then-are_indices
returns-then-are_indices c =
    let places : All (IsIndex (length c.args.successors.now)) c.args.successors.now = search rules in (
      (λ y. circuit_from_return c.args.successors.now places (c.returns_last.ensures.0 y)),
      (λ h. c.returns_last.ensures.1 (return_from_circuit c.args.successors.now h)),
    )
