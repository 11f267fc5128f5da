-- The propagator of a sum waits for each term of its constraint: these are the terms of its places and its switch.
use Rattle.std.proofs.Common.{◌≡◌, Result, Ok, Err, IfOk, List, [], ◌∷◌, ◌++◌, Some, None, ℤ, pos, negsuc, refl, sym, ap, subst, ◌∙◌}
use Rattle.std.specs.Option.{option_to_list}
use Rattle.std.proofs.lemmas.List.{append-nil, map-append}
use Rattle.fzn_values.specs.declared.term.Term.{Term}
use Rattle.fzn_values.specs.declared.term.Place.{Place}
use Rattle.fzn_meaning.specs.declared.arithmetic.Operation.TheVariants.{Plus}
use Rattle.fzn_meaning.specs.declared.constraint.Constraint.{Constraint}
use Rattle.fzn_meaning.specs.declared.constraint.Constraint.TheVariants.{Compare, BoolNot, BoolToInt, Linear, BoolLinEq, Arithmetic, Gated, BoolClause}
use Rattle.fzn_builtin_rules.specs.Form.{Form, form_of, place_with, each_with}
use Rattle.fzn_propagator.specs.declared.event.Event.TheVariants.{Any}
use Rattle.fzn_propagator.specs.declared.subscriptions.Subscription.{Subscription}
use Rattle.fzn_propagator.specs.Subscriptions.{terms_in, terms_of, waits_some, AreHeard}
use Rattle.fzn_propagator.proofs.CallerLemmas.{all_heard-by, all_heard-each, all_heard-join, all_heard-swap}
use Rattle.fzn_linear.specs.declared.sum.SumPropagator.{SumPropagator}
use Rattle.fzn_linear.specs.declared.equality.EqualityPropagator.{EqualityPropagator}
use Rattle.fzn_linear.specs.Kinds.{form_of_sum, IsFormOf}
use Rattle.fzn_linear.specs.Equality.{EqualityIsFor}
use Rattle.fzn_linear.specs.Wakes.{event_at, sum_subscriptions}

-- ---- the terms of a form

abbrev form_terms : Form → List Term
form_terms form = terms_in form.places ++ option_to_list form.switch

same_form : (f g : Form) → Some f ≡ Some g → f ≡ g
same_form f g e = cc

none_some : (f : Form) → None ≡ Some f → ⊥
none_some f e = cc

terms-each_with : (coefficient : ℤ) (terms : List Term) → terms_in (each_with coefficient terms) ≡ terms
terms-each_with coefficient [] = refl
terms-each_with coefficient (term ∷ terms) = ap (λ (ts : List Term). term ∷ ts) (terms-each_with coefficient terms)

terms-with_total : (sum : List Place) (place : Place) → terms_in (sum ++ place ∷ []) ++ [] ≡ terms_in sum ++ place.term ∷ []
terms-with_total sum place = append-nil (terms_in (sum ++ place ∷ [])) ∙ map-append (λ (p : Place). p.term) sum (place ∷ [])

terms-clause : (positive negative : List Term) → terms_in (each_with (pos 1) negative ++ each_with (negsuc 0) positive) ++ [] ≡ negative ++ positive
terms-clause positive negative =
    append-nil (terms_in (each_with (pos 1) negative ++ each_with (negsuc 0) positive))
    ∙ map-append (λ (p : Place). p.term) (each_with (pos 1) negative) (each_with (negsuc 0) positive)
    ∙ ap (λ (ts : List Term). ts ++ terms_in (each_with (negsuc 0) positive)) (terms-each_with (pos 1) negative)
    ∙ ap (λ (ts : List Term). negative ++ ts) (terms-each_with (negsuc 0) positive)

module _ (found : List Subscription) (form : Form) (heard : AreHeard found (form_terms form)) where
  own_heard : (own : Form) → Some own ≡ Some form → AreHeard found (form_terms own)
  own_heard own is = subst (λ (f : Form). AreHeard found (form_terms f)) (sym (same_form own form is)) heard

  form_heard : (c : Constraint) → form_of c ≡ Some form → AreHeard found (terms_of c)
  unfolding form_of terms_of
  form_heard (Compare relation left right switch) is = own_heard _ is
  form_heard (BoolNot left right) is = own_heard _ is
  form_heard (BoolToInt boolean integer) is = own_heard _ is
  form_heard (Linear sum comparison bound switch) is = own_heard _ is
  form_heard (BoolLinEq sum total) is = subst (AreHeard found) (terms-with_total sum (place_with (negsuc 0) total)) (own_heard _ is)
  form_heard (Arithmetic Plus left right result) is = own_heard _ is
  form_heard (Gated gate inputs result) is = subst (λ (ts : List Term). AreHeard found (ts ++ result ∷ [])) (terms-each_with (negsuc 0) inputs) (own_heard _ is)
  form_heard (BoolClause positive negative) is = all_heard-swap found negative positive (subst (AreHeard found) (terms-clause positive negative) (own_heard _ is))
  form_heard _ is = absurd (none_some form is)

pub sum_heard : (propagator : SumPropagator) (found : List Subscription) (constraint : Constraint) → found ≡ sum_subscriptions propagator → IsFormOf constraint propagator.form → AreHeard found (terms_of constraint)
sum_heard propagator found constraint is of_form =
    let places = propagator.form.places in
    let switch = option_to_list propagator.form.switch in
    let by_place = all_heard-by (λ (place : Place). event_at propagator.wake place.coefficient) (λ (place : Place). place.term) places in
    let both = all_heard-join _ (waits_some Any propagator.form.switch) (terms_in places) switch by_place (all_heard-each Any switch) in
    form_heard found (form_of_sum propagator.form) (subst (λ (xs : List Subscription). AreHeard xs (terms_in places ++ switch)) (sym is) both) constraint of_form

-- so of what is answered, if anything
pub answer_heard : {E : Type 0} (propagator : SumPropagator) (answer : Result (List Subscription) E) → IfOk answer (λ found. found ≡ sum_subscriptions propagator) → IfOk answer (λ found. (constraint : Constraint) → IsFormOf constraint propagator.form → AreHeard found (terms_of constraint))
answer_heard propagator (Ok found) is = λ constraint of_form. sum_heard propagator found constraint is of_form
answer_heard propagator (Err e) is = tt

pub equality_heard : {E : Type 0} (propagator : EqualityPropagator) (answer : Result (List Subscription) E) → IfOk answer (λ found. found ≡ sum_subscriptions propagator.sum) → IfOk answer (λ found. (constraint : Constraint) → EqualityIsFor propagator constraint → AreHeard found (terms_of constraint))
equality_heard propagator (Ok found) is = λ constraint is_for. sum_heard propagator.sum found constraint is is_for.by_form
equality_heard propagator (Err e) is = tt
