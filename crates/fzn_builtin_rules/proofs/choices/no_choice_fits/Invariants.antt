use Rattle.std.proofs.Common.{ℕ, ◌<◌}
use Rattle.fzn_builtin_rules.specs.Numbered.{FailsAt}
use Rattle.fzn_builtin_rules.proofs.choices.no_choice_fits.Given as goal

abbrev pub invariant-loop-number : goal.invariant-loop-number
invariant-loop-number l = (n : ℕ) → n < l.number → FailsAt l.constraint l.sets.present n
