-- A row's propagator waits for the variable of each part, and for the places of each table.
use Rattle.std.proofs.Common.{◌≡◌, List, [], ◌∷◌, sym, subst}
use Rattle.std.specs.List.{flat_map}
use Rattle.std.proofs.lemmas.List.Elements.{All-nil}
use Rattle.fzn_meaning.specs.declared.row.Part.{Part}
use Rattle.fzn_meaning.specs.declared.row.Part.TheVariants as parts
use Rattle.fzn_meaning.specs.declared.row.Row.{Row}
use Rattle.fzn_values.specs.declared.term.Term.TheVariants.{Variable}
use Rattle.fzn_meaning.specs.declared.constraint.Constraint.{Constraint}
use Rattle.fzn_meaning.specs.declared.constraint.Constraint.TheVariants as constraint
use Rattle.fzn_propagator.specs.declared.event.Event.TheVariants.{Any}
use Rattle.fzn_propagator.specs.declared.subscriptions.Subscription.{Subscription}
use Rattle.fzn_propagator.specs.Subscriptions.{terms_of, terms_of_part, IsHeard, AreHeard}
use Rattle.fzn_propagator.proofs.CallerLemmas.{all_heard-join, all_heard-one, all_heard-each}
use Rattle.fzn_separable.specs.Propagator.{event_of, waits_for_part, waits_for}

part_heard : (part : Part) → AreHeard (waits_for_part part) (terms_of_part part)
part_heard (parts.Variable part) = all_heard-one (event_of part) (Variable part.var)
part_heard (parts.Table table) = all_heard-each Any table.places

parts_heard : (row : List Part) → AreHeard (waits_for row) (flat_map terms_of_part row)
parts_heard [] = All-nil (IsHeard [])
parts_heard (part ∷ row) = all_heard-join (waits_for_part part) (waits_for row) (terms_of_part part) (flat_map terms_of_part row) (part_heard part) (parts_heard row)

pub row_heard : (row : Row) (found : List Subscription) (other : Constraint) → found ≡ waits_for row.parts → constraint.Row row ≡ other → AreHeard found (terms_of other)
unfolding terms_of
row_heard row found other is same =
    subst (λ (c : Constraint). AreHeard found (terms_of c)) same
    (subst (λ (xs : List Subscription). AreHeard xs (terms_of (constraint.Row row))) (sym is) (parts_heard row.parts))
