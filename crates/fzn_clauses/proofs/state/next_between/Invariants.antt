use Rattle.std.proofs.Common.{◌≢◌, ℕ, ℤ, ◌<◌, ◌≤◌, ◌<ℤ◌}
use Rattle.fzn_domain.specs.declared.literal.Op.TheVariants.{Equal}
use Rattle.fzn_clauses.specs.Keys.{place_among}
use Rattle.fzn_clauses.proofs.state.next_between.Given as goal

abbrev pub invariant-loop-value : goal.invariant-loop-value
invariant-loop-value l = record {
  later : l.from ≤ l.next;
  within : (place : ℕ) → l.from ≤ place → place < l.next → place < 10;
  passed : (v : ℤ) → l.above <ℤ v → v <ℤ l.value → (place : ℕ) → l.from ≤ place → place < l.next → place_among Equal v ≢ place;
}
