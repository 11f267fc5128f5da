-- A table's propagator waits for each place.
use Rattle.std.proofs.Common.{◌≡◌, List, ℤ, sym, subst}
use Rattle.fzn_values.specs.declared.term.Term.{Term}
use Rattle.fzn_meaning.specs.declared.constraint.Constraint.{Constraint}
use Rattle.fzn_meaning.specs.declared.constraint.Constraint.TheVariants.{Table}
use Rattle.fzn_propagator.specs.declared.event.Event.{Event}
use Rattle.fzn_propagator.specs.declared.subscriptions.Subscription.{Subscription}
use Rattle.fzn_propagator.specs.Subscriptions.{terms_of, waits_each, AreHeard}
use Rattle.fzn_propagator.proofs.CallerLemmas.{all_heard-each}

pub table_heard : (event : Event) (found : List Subscription) (places : List Term) (rows : List ℤ) (constraint : Constraint) → found ≡ waits_each event places → Table places rows ≡ constraint → AreHeard found (terms_of constraint)
unfolding terms_of
table_heard event found places rows constraint is same =
    subst (λ (c : Constraint). AreHeard found (terms_of c)) same (subst (λ (xs : List Subscription). AreHeard xs places) (sym is) (all_heard-each event places))
