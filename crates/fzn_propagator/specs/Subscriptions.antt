-- Which terms a constraint has, and which of them a propagator waits for.
use Rattle.std.specs.Prelude.{List, [], ◌∷◌, ◌++◌, map, Option, flat_map}
use Rattle.std.specs.List.{All, Contains}
use Rattle.std.specs.Option.{option_to_list}
use Rattle.fzn_domain.specs.declared.literal.VarId.{VarId}
use Rattle.fzn_values.specs.declared.term.Term.{Term}
use Rattle.fzn_values.specs.declared.term.Term.TheVariants.{Constant, Variable}
use Rattle.fzn_values.specs.declared.term.Place.{Place}
use Rattle.fzn_meaning.specs.declared.row.Part.{Part}
use Rattle.fzn_meaning.specs.declared.row.Part.TheVariants as kind
use Rattle.fzn_meaning.specs.declared.constraint.Constraint.{Constraint}
use Rattle.fzn_meaning.specs.declared.constraint.Constraint.TheVariants.{Compare, BoolNot, BoolToInt, Linear, BoolLinEq, Arithmetic, IntAbs, Extremum, Element, SetIn, Gated, BoolXor, ArrayBoolXor, BoolClause, AllDifferent, Table, Cumulative, Circuit, Inverse, Row}
use Rattle.fzn_propagator.specs.declared.event.Event.{Event}
use Rattle.fzn_propagator.specs.declared.subscriptions.Subscription.{Subscription}

-- ---- the terms of a constraint

abbrev pub terms_in : List Place → List Term
terms_in places = map (λ place. place.term) places

-- the variable of a part, or the places of its table
abbrev pub terms_of_part : Part → List Term
terms_of_part (kind.Variable part) = Variable part.var ∷ []
terms_of_part (kind.Table table) = table.places

-- every term that the meaning of the constraint looks at
unfoldable pub terms_of : Constraint → List Term
terms_of (Compare relation left right switch) = left ∷ right ∷ option_to_list switch
terms_of (BoolNot left right) = left ∷ right ∷ []
terms_of (BoolToInt boolean integer) = boolean ∷ integer ∷ []
terms_of (Linear sum comparison bound switch) = terms_in sum ++ option_to_list switch
terms_of (BoolLinEq sum total) = terms_in sum ++ total ∷ []
terms_of (Arithmetic operation left right result) = left ∷ right ∷ result ∷ []
terms_of (IntAbs of result) = of ∷ result ∷ []
terms_of (Extremum extreme entries result) = entries ++ result ∷ []
terms_of (Element index entries value) = index ∷ entries ++ value ∷ []
terms_of (SetIn term set switch) = term ∷ option_to_list switch
terms_of (Gated gate inputs result) = inputs ++ result ∷ []
terms_of (BoolXor left right result) = left ∷ right ∷ result ∷ []
terms_of (ArrayBoolXor inputs) = inputs
terms_of (BoolClause positive negative) = positive ++ negative
terms_of (AllDifferent places) = places
terms_of (Table places rows) = places
terms_of (Cumulative starts durations uses capacity) = starts ++ durations ++ uses ++ capacity ∷ []
terms_of (Circuit successors) = successors
terms_of (Inverse forward backward) = forward ++ backward
terms_of (Row row) = flat_map terms_of_part row.parts

-- ---- what is waited for

abbrev pub subscription : VarId → Event → Subscription
subscription variable event = record { variable = variable; event = event }

-- the subscription to a term, where it is a variable
abbrev pub waits : Event → Term → List Subscription
waits event (Constant k) = []
waits event (Variable var) = subscription var event ∷ []

abbrev pub waits_each : Event → List Term → List Subscription
waits_each event terms = flat_map (waits event) terms

abbrev pub waits_some : Event → Option Term → List Subscription
waits_some event term = waits_each event (option_to_list term)

-- some change of the term is waited for; a constant has none
abbrev pub IsHeard : List Subscription → Term → Type 0
IsHeard subscriptions (Constant k) = Unit {0}
IsHeard subscriptions (Variable var) = (event : Event) × Contains subscriptions (subscription var event)

-- so of each term
abbrev pub AreHeard : List Subscription → List Term → Type 0
AreHeard subscriptions terms = All (IsHeard subscriptions) terms
