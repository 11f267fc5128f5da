use Rattle.std.proofs.Common.{ℕ, ◌<◌, get_or, pos}
use Rattle.fzn_values.specs.declared.term.Term.TheVariants.{Constant}
use Rattle.fzn_rules.specs.GlobalRows.{IsBelowZero}
use Rattle.fzn_rules.proofs.global_rows.is_below_zero_somewhere.Given as goal

abbrev pub invariant-loop-term : goal.invariant-loop-term
invariant-loop-term l = (k : ℕ) → k < l.term-index → IsBelowZero l.sets.present (get_or l.terms k (Constant (pos 0))) → ⊥
