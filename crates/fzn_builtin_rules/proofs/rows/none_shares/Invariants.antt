use Rattle.std.proofs.Common.{take}
use Rattle.std.specs.List.{All}
use Rattle.fzn_builtin_rules.specs.Rows.{ShareNone}
use Rattle.fzn_builtin_rules.proofs.rows.none_shares.Given as goal

abbrev pub invariant-loop-entry : goal.invariant-loop-entry
invariant-loop-entry l = All (λ entry. ShareNone l.sets.present entry l.value) (take l.entry-index l.entries)
