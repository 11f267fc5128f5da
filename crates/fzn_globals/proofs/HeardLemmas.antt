-- The propagator of either kind waits for each place.
use Rattle.std.proofs.Common.{◌≡◌, List, ◌++◌, sym, subst, ◌∙◌}
use Rattle.fzn_values.specs.declared.term.Term.{Term}
use Rattle.fzn_meaning.specs.declared.constraint.Constraint.{Constraint}
use Rattle.fzn_meaning.specs.declared.constraint.Constraint.TheVariants.{AllDifferent, Inverse}
use Rattle.fzn_propagator.specs.declared.event.Event.{Event}
use Rattle.fzn_propagator.specs.declared.subscriptions.Subscription.{Subscription}
use Rattle.fzn_propagator.specs.Subscriptions.{terms_of, waits_each, AreHeard}
use Rattle.fzn_propagator.proofs.CallerLemmas.{all_heard-each, all_heard-join}

module _ (event : Event) (found : List Subscription) (own constraint : Constraint) (same : own ≡ constraint) where
  pub different_heard : (places : List Term) → own ≡ AllDifferent places → found ≡ waits_each event places → AreHeard found (terms_of constraint)
  unfolding terms_of
  different_heard places is value =
      subst (λ (c : Constraint). AreHeard found (terms_of c)) (sym is ∙ same) (subst (λ (xs : List Subscription). AreHeard xs places) (sym value) (all_heard-each event places))

  pub inverse_heard : (forward backward : List Term) → own ≡ Inverse forward backward → found ≡ waits_each event forward ++ waits_each event backward → AreHeard found (terms_of constraint)
  unfolding terms_of
  inverse_heard forward backward is value =
      let both = all_heard-join (waits_each event forward) (waits_each event backward) forward backward (all_heard-each event forward) (all_heard-each event backward) in
      subst (λ (c : Constraint). AreHeard found (terms_of c)) (sym is ∙ same) (subst (λ (xs : List Subscription). AreHeard xs (forward ++ backward)) (sym value) both)
