use Rattle.std.proofs.Common.{◌↔◌, ℤ, ◌∷◌, drop}
use Rattle.fzn_meaning.specs.Extrema.{IsExtremum}
use Rattle.fzn_builtin_rules.specs.Numbered.{choice_at}
use Rattle.fzn_builtin_rules.proofs.chosen.extreme_in.Given as goal

-- the best value so far stands for the values behind it
abbrev pub invariant-loop-k : goal.invariant-loop-k
invariant-loop-k l = (x : ℤ) → IsExtremum l.extreme (choice_at l.sets.present l.entries l.fn.number) x ↔ IsExtremum l.extreme (l.best ∷ choice_at l.sets.present (drop l.k l.entries) l.left) x
