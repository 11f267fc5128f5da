use Rattle.std.proofs.Common.{ℕ, ◌+◌, ◌<◌, get_or, pos}
use Rattle.fzn_values.specs.declared.term.Term.{Term}
use Rattle.fzn_sets.specs.Terms.{MayBe}
use Rattle.fzn_builtin_rules.specs.Rows.{ShareNone}
use Rattle.fzn_builtin_rules.proofs.rows.no_entry_fits.Given as goal

-- the entries so far do not fit
abbrev pub invariant-loop-k : goal.invariant-loop-k
invariant-loop-k l = (j : ℕ) (d : Term) → j < l.k → MayBe l.sets.present l.index (pos (j + 1)) → ShareNone l.sets.present (get_or l.entries j d) l.value
