use Rattle.std.proofs.Common.{ℕ, ◌+◌, ◌*◌, ◌<◌, length, get_or, pos}
use Rattle.fzn_values.specs.declared.term.Term.TheVariants.{Constant}
use Rattle.fzn_values.specs.Term.{number_in}
use Rattle.fzn_sets.specs.Terms.{MayBe}
use Rattle.fzn_rules.proofs.global_rows.is_row_out.Given as goal

abbrev pub invariant-loop-k : goal.invariant-loop-k
invariant-loop-k l = (i : ℕ) → i < l.k → MayBe l.sets.present (get_or l.places i (Constant (pos 0))) (number_in (get_or l.rows (l.r * length l.places + i) (Constant (pos 0))))
