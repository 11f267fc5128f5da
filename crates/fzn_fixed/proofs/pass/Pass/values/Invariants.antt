use Rattle.std.proofs.Common.{◌≡◌, map, take}
use Rattle.std.specs.List.{All}
use Rattle.fzn_domain.specs.Limits.{IsInLimits}
use Rattle.fzn_sets.specs.Terms.{least_value}
use Rattle.fzn_fixed.proofs.pass.Pass.values.Given as goal

abbrev pub invariant-loop-term : goal.invariant-loop-term
invariant-loop-term l = record {
  values : l.values.items ≡ map (least_value l.self.trail.now.sets) (take l.term-index l.self.inputs.now);
  in_limits : All IsInLimits l.values.items;
}
