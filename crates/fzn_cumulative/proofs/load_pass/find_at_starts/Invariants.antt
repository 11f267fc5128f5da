use Rattle.std.proofs.Common.{ℕ, ◌<◌, get_or}
use Rattle.fzn_values.specs.declared.term.Term.{Term}
use Rattle.fzn_sets.specs.Terms.{greatest_value}
use Rattle.fzn_cumulative.specs.Loads.{IsKeptAt}
use Rattle.fzn_cumulative.specs.Passes.{tasks_of, AreFoundOfCumulative}
use Rattle.fzn_cumulative.proofs.load_pass.find_at_starts.Given as goal

abbrev pub invariant-loop-k : goal.invariant-loop-k
invariant-loop-k l = record {
  found : AreFoundOfCumulative l.pass l.found;
  kept : (k : ℕ) (d : Term) → k < l.k → IsKeptAt l.pass.trail.now.sets (tasks_of l.pass) (greatest_value l.pass.trail.now.sets (get_or l.pass.starts.now k d));
}
