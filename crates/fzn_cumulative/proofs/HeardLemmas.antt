-- A cumulative's propagator waits for each term of its tasks.
use Rattle.std.proofs.Common.{◌≡◌, List, [], ◌∷◌, ◌++◌, sym, subst}
use Rattle.fzn_values.specs.declared.term.Term.{Term}
use Rattle.fzn_meaning.specs.declared.constraint.Constraint.{Constraint}
use Rattle.fzn_meaning.specs.declared.constraint.Constraint.TheVariants.{Cumulative}
use Rattle.fzn_propagator.specs.declared.event.Event.{Event}
use Rattle.fzn_propagator.specs.declared.subscriptions.Subscription.{Subscription}
use Rattle.fzn_propagator.specs.Subscriptions.{terms_of, waits, waits_each, AreHeard}
use Rattle.fzn_propagator.proofs.CallerLemmas.{all_heard-each, all_heard-one, all_heard-join}

module _ (event : Event) (starts durations uses : List Term) (capacity : Term) where
  all_heard : AreHeard (waits_each event starts ++ waits_each event durations ++ waits_each event uses ++ waits event capacity) (starts ++ durations ++ uses ++ capacity ∷ [])
  all_heard =
      let two = all_heard-join (waits_each event starts) (waits_each event durations) starts durations (all_heard-each event starts) (all_heard-each event durations) in
      let three = all_heard-join (waits_each event starts ++ waits_each event durations) (waits_each event uses) (starts ++ durations) uses two (all_heard-each event uses) in
      all_heard-join (waits_each event starts ++ waits_each event durations ++ waits_each event uses) (waits event capacity) (starts ++ durations ++ uses) (capacity ∷ []) three (all_heard-one event capacity)

  pub cumulative_heard : (found : List Subscription) (constraint : Constraint) → found ≡ waits_each event starts ++ waits_each event durations ++ waits_each event uses ++ waits event capacity → Cumulative starts durations uses capacity ≡ constraint → AreHeard found (terms_of constraint)
  unfolding terms_of
  cumulative_heard found constraint is same =
      subst (λ (c : Constraint). AreHeard found (terms_of c)) same (subst (λ (xs : List Subscription). AreHeard xs (starts ++ durations ++ uses ++ capacity ∷ [])) (sym is) all_heard)
