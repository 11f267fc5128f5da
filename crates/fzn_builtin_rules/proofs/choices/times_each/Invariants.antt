use Rattle.std.proofs.Common.{◌≡◌, ◌*◌, ◌<◌, ◌≤◌, drop}
use Rattle.fzn_builtin_rules.specs.Choices.{choices}
use Rattle.fzn_builtin_rules.proofs.choices.times_each.Given as goal

-- what is left of the terms makes up for what is left of the product
abbrev pub invariant-loop-term : goal.invariant-loop-term
invariant-loop-term l = record {
  product : l.product * choices l.sets.present (drop l.term-index l.terms) ≡ l.count * choices l.sets.present l.terms;
  some : 0 < l.product;
  few : l.product ≤ 4096;
}
