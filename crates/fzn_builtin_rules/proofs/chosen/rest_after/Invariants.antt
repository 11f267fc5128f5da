use Rattle.std.proofs.Common.{◌≡◌, drop}
use Rattle.fzn_builtin_rules.specs.Numbered.{rest_after}
use Rattle.fzn_builtin_rules.proofs.chosen.rest_after.Given as goal

abbrev pub invariant-loop-term : goal.invariant-loop-term
invariant-loop-term l = rest_after l.sets.present l.terms l.fn.number ≡ rest_after l.sets.present (drop l.term-index l.terms) l.left
