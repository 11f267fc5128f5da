use Rattle.std.proofs.Common.{take}
use Rattle.std.specs.List.{All}
use Rattle.fzn_builtin_rules.specs.Rows.{IsBeyond}
use Rattle.fzn_builtin_rules.proofs.rows.some_passes.Given as goal

abbrev pub invariant-loop-entry : goal.invariant-loop-entry
invariant-loop-entry l = All (λ entry. IsBeyond l.sets.present l.extreme l.bound entry → ⊥) (take l.entry-index l.entries)
