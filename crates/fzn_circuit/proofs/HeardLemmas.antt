-- A circuit's propagator waits for each successor.
use Rattle.std.proofs.Common.{◌≡◌, List, sym, subst}
use Rattle.fzn_values.specs.declared.term.Term.{Term}
use Rattle.fzn_meaning.specs.declared.constraint.Constraint.{Constraint}
use Rattle.fzn_meaning.specs.declared.constraint.Constraint.TheVariants.{Circuit}
use Rattle.fzn_propagator.specs.declared.event.Event.{Event}
use Rattle.fzn_propagator.specs.declared.subscriptions.Subscription.{Subscription}
use Rattle.fzn_propagator.specs.Subscriptions.{terms_of, waits_each, AreHeard}
use Rattle.fzn_propagator.proofs.CallerLemmas.{all_heard-each}

pub circuit_heard : (event : Event) (found : List Subscription) (successors : List Term) (constraint : Constraint) → found ≡ waits_each event successors → Circuit successors ≡ constraint → AreHeard found (terms_of constraint)
unfolding terms_of
circuit_heard event found successors constraint is same =
    subst (λ (c : Constraint). AreHeard found (terms_of c)) same (subst (λ (xs : List Subscription). AreHeard xs successors) (sym is) (all_heard-each event successors))
