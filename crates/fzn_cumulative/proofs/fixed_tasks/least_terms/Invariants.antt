use Rattle.std.proofs.Common.{◌≡◌, take}
use Rattle.std.specs.List.{All}
use Rattle.fzn_values.specs.Term.{IsTerm}
use Rattle.fzn_cumulative.specs.Kept.{least_terms}
use Rattle.fzn_cumulative.proofs.fixed_tasks.least_terms.Given as goal

abbrev pub invariant-loop-k : goal.invariant-loop-k
invariant-loop-k l = record {
  same : l.list ≡ least_terms l.pass.trail.now.sets (take l.k l.terms);
  limits : All (IsTerm 0) l.list;
}
