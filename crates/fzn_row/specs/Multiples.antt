-- Multiples of constraints, added to a row.
use Rattle.std.specs.Prelude.{ℤ, ◌+ℤ◌, ◌-ℤ◌, ◌*ℤ◌, if◌then◌else◌, List, Result, Err}
use Rattle.std.specs.Option.{option_map_or}
use Rattle.fzn_values.specs.declared.term.Term.{Term}
use Rattle.fzn_values.specs.declared.term.Term.TheVariants.{Constant, Variable}
use Rattle.fzn_values.specs.declared.term.Place.{Place}
use Rattle.fzn_meaning.specs.declared.constraint.Constraint.{Constraint}
use Rattle.fzn_builtin_rules.specs.Form.{Form, form_of}
use Rattle.fzn_cited.specs.declared.multiple.Multiple.{Multiple}
use Rattle.fzn_cited.specs.declared.fault.DeriveFault.{DeriveFault}
use Rattle.fzn_cited.specs.declared.fault.DeriveFault.TheVariants.{NoSuchConstraint, NotDerived}
use Rattle.fzn_cited.specs.Cited.{constraint_at}
use Rattle.fzn_weights.specs.Multiples.{is_usable}
use Rattle.fzn_row.specs.Draft.{Draft, part_for, with_bound, with_coefficient, and_then, in_turn}

-- a constant times this amount goes to the side of the bound, a variable counts so much more
abbrev pub term_added : ℤ → Draft → Term → Result Draft DeriveFault
term_added amount draft (Constant k) = with_bound (draft.bound -ℤ amount *ℤ k) draft
term_added amount draft (Variable var) = with_coefficient var ((part_for var draft.parts).coefficient +ℤ amount) draft

abbrev pub place_added : ℤ → Draft → Place → Result Draft DeriveFault
place_added multiplier draft place = term_added (place.coefficient *ℤ multiplier) draft place.term

-- the places of the form, and then its bound, each times the multiplier
unfoldable pub form_added : ℤ → Draft → Form → Result Draft DeriveFault
form_added multiplier draft found = and_then (in_turn (place_added multiplier) draft found.places) (λ next. with_bound (next.bound +ℤ found.bound *ℤ multiplier) next)

-- the form of the constraint, where it has one that may be multiplied so
abbrev pub multiple_added : List Constraint → Draft → Multiple → Result Draft DeriveFault
multiple_added given draft multiple = option_map_or
    (λ constraint. option_map_or
    (λ found. if is_usable multiple.multiplier found then form_added multiple.multiplier draft found else Err NotDerived)
    (form_of constraint) (Err NotDerived))
    (constraint_at given multiple.constraint) (Err NoSuchConstraint)
