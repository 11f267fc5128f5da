-- The part of a variable, moved to another one whose value decides its own.
use Rattle.std.specs.Prelude.{ℕ, ℤ, if◌then◌else◌, List, Option, Result, Err}
use Rattle.std.specs.Option.{option_map_or}
use Rattle.fzn_domain.specs.declared.literal.VarId.{VarId}
use Rattle.fzn_domain.specs.IntSet.{IntSet, least}
use Rattle.fzn_domain.specs.Narrow.{set_of}
use Rattle.fzn_meaning.specs.declared.constraint.Constraint.{Constraint}
use Rattle.fzn_meaning.specs.declared.constraint.Constraint.TheVariants.{Inverse}
use Rattle.fzn_cited.specs.declared.fault.DeriveFault.{DeriveFault}
use Rattle.fzn_cited.specs.declared.fault.DeriveFault.TheVariants.{NoSuchConstraint, NotDerived}
use Rattle.fzn_cited.specs.Cited.{constraint_at}
use Rattle.fzn_dependence.specs.Decided.{decider_in, decided_in}
use Rattle.fzn_weights.specs.Moves.{weight_where, moved_from, span, is_narrow}
use Rattle.fzn_row.specs.Draft.{Draft, part_for}
use Rattle.fzn_row.specs.Prices.{with_list}
use Rattle.fzn_row.specs.Weights.{without_part}
use Rattle.fzn_row.specs.Inverses.{inverse_moved}

-- what the variable weighs moves to one at each of whose values this is decided
abbrev pub part_moved_so : List IntSet → (ℤ → Option ℤ) → VarId → VarId → Draft → Result Draft DeriveFault
part_moved_so declared decided source by draft =
    with_list by (without_part source draft) (least (set_of declared by))
    (moved_from (weight_where (set_of declared source) (part_for source draft.parts) decided) (least (set_of declared by)) (span (set_of declared by)) (part_for by (without_part source draft).parts).listed)

-- it moves to the one that decides it
abbrev pub decided_moved : List IntSet → VarId → Draft → Constraint → Result Draft DeriveFault
decided_moved declared source draft constraint = option_map_or (λ by. if is_narrow (set_of declared by) then part_moved_so declared (λ value. decided_in by value constraint) source by draft else Err NotDerived) (decider_in source constraint) (Err NotDerived)

-- by an inverse it moves to the places of the other list
abbrev pub part_moved_by : List IntSet → VarId → Draft → Constraint → Result Draft DeriveFault
part_moved_by declared var draft (Inverse forward backward) = inverse_moved var draft forward backward
part_moved_by declared var draft constraint = decided_moved declared var draft constraint

-- what the variable weighs moves to those that decide its value by the constraint
abbrev pub move_added : List Constraint → List IntSet → Draft → ℕ → VarId → Result Draft DeriveFault
move_added given declared draft id var = option_map_or (part_moved_by declared var draft) (constraint_at given id) (Err NoSuchConstraint)
