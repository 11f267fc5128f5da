use Rattle.std.proofs.Common.{◌≡◌, ℕ, ◌≤◌, pos}
use Rattle.fzn_values.specs.Circuit.{reached}
use Rattle.fzn_values.proofs.circuit.returns_last.Given as goal

abbrev pub invariant-loop-step : goal.invariant-loop-step
invariant-loop-step l = record {
  at : l.place ≡ reached l.successors l.step;
  not_before : (k : ℕ) → 1 ≤ k → k ≤ l.step → reached l.successors k ≡ pos 1 → ⊥;
}
