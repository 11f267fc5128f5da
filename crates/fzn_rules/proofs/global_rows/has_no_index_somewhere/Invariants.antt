use Rattle.std.proofs.Common.{ℕ, ◌<◌, length, get_or, pos}
use Rattle.fzn_values.specs.declared.term.Term.TheVariants.{Constant}
use Rattle.fzn_rules.specs.GlobalRows.{HasNoIndex}
use Rattle.fzn_rules.proofs.global_rows.has_no_index_somewhere.Given as goal

abbrev pub invariant-loop-entry : goal.invariant-loop-entry
invariant-loop-entry l = (k : ℕ) → k < l.entry-index → HasNoIndex l.sets.present (length l.entries) (get_or l.entries k (Constant (pos 0))) → ⊥
