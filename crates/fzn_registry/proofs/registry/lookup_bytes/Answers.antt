use Rattle.std.proofs.Common.{◌≡◌, Some, sym, ◌∙◌, subst}
use Rattle.fzn_registry.specs.Registry.{spelling_of, name_spelled}
use Rattle.fzn_registry.specs.Spelling.{first_named}
use Rattle.fzn_registry.proofs.NameLemmas.{name_spelled-spelling_of, name_spelled-none}
use Rattle.fzn_registry.proofs.SpellingLemmas.{rows, spelling_of-first_named, rows_right, none_spelled, only_spelled}
use Rattle.fzn_registry.proofs.registry.lookup_bytes.Goals as goal

-- the search was among the rows of the table
found_is : (c : goal.After-non_negative) → first_named rows c.args.name.now ≡ Some c.in_ok-constraint.constraint
unfolding rows
found_is c = sym c.first_named.ensures ∙ c.in_ok-constraint.was

spelled : (c : goal.After-non_negative) → spelling_of c.in_ok-constraint.constraint ≡ c.args.name.now
spelled c = spelling_of-first_named rows _ _ rows_right (found_is c)

pub returns-clause-found : goal.returns-clause-found
returns-clause-found c = (record { arguments = c.arguments.ensures; lengths = c.lengths.ensures; non_negative = c.non_negative.ensures }, spelled c)

pub returns-clause-only : goal.returns-clause-only
returns-clause-only c = only_spelled _ _ (found_is c)

pub returns-clause-search : goal.returns-clause-search
returns-clause-search c = rw (← spelled c) (sym (name_spelled-spelling_of c.in_ok-constraint.constraint))

pub returns-in_err-constraint-clause-none : goal.returns-in_err-constraint-clause-none
unfolding rows
returns-in_err-constraint-clause-none c =
    rw c.from_residual.ensures (none_spelled c.args.name.now (sym c.first_named.ensures ∙ c.in_err-constraint.was))

pub returns-in_err-constraint-clause-search : goal.returns-in_err-constraint-clause-search
unfolding rows
returns-in_err-constraint-clause-search c =
    let none = none_spelled c.args.name.now (sym c.first_named.ensures ∙ c.in_err-constraint.was) in
    rw c.from_residual.ensures (sym (name_spelled-none c.args.name.now none))
