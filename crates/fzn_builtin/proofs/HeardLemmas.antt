-- A propagator waits for each term of its constraint: these are its inputs and its result.
use Rattle.std.proofs.Common.{◌≡◌, List, ◌++◌, Option, Some, IfSome, sym, subst}
use Rattle.std.specs.Option.{option_to_list}
use Rattle.std.proofs.lemmas.List.{append-nil}
use Rattle.fzn_values.specs.declared.term.Term.{Term}
use Rattle.fzn_meaning.specs.declared.constraint.Constraint.{Constraint}
use Rattle.fzn_meaning.specs.declared.constraint.Constraint.TheVariants.{Compare, BoolNot, BoolToInt, Linear, BoolLinEq, Arithmetic, IntAbs, Extremum, Element, SetIn, Gated, BoolXor, ArrayBoolXor, BoolClause}
use Rattle.fzn_builtin_rules.specs.Choices.{inputs_of, result_of}
use Rattle.fzn_propagator.specs.declared.event.Event.{Event}
use Rattle.fzn_propagator.specs.declared.subscriptions.Subscription.{Subscription}
use Rattle.fzn_propagator.specs.Subscriptions.{terms_of, waits_each, waits_some, AreHeard}
use Rattle.fzn_propagator.proofs.CallerLemmas.{all_heard-each, all_heard-join}

module _ (found : List Subscription) where
  parts_heard : (c : Constraint) → IfSome (inputs_of c) (λ inputs. AreHeard found (inputs ++ option_to_list (result_of c)) → AreHeard found (terms_of c))
  unfolding inputs_of result_of terms_of
  parts_heard (Compare relation left right switch) = λ heard. heard
  parts_heard (BoolNot left right) = λ heard. heard
  parts_heard (BoolToInt boolean integer) = λ heard. heard
  parts_heard (Linear sum comparison bound switch) = λ heard. heard
  parts_heard (BoolLinEq sum total) = λ heard. heard
  parts_heard (Arithmetic operation left right result) = λ heard. heard
  parts_heard (IntAbs of result) = λ heard. heard
  parts_heard (Extremum extreme entries result) = λ heard. heard
  parts_heard (Element index entries value) = λ heard. heard
  parts_heard (SetIn term set switch) = λ heard. heard
  parts_heard (Gated gate own result) = λ heard. heard
  parts_heard (BoolXor left right result) = λ heard. heard
  parts_heard (ArrayBoolXor own) = λ heard. subst (AreHeard found) (append-nil own) heard
  parts_heard (BoolClause positive negative) = λ heard. subst (AreHeard found) (append-nil (positive ++ negative)) heard
  parts_heard _ = tt

pub builtin_heard : (event : Event) (found : List Subscription) (inputs : List Term) (result : Option Term) (constraint : Constraint) → found ≡ waits_each event inputs ++ waits_some event result → inputs_of constraint ≡ Some inputs → result_of constraint ≡ result → AreHeard found (terms_of constraint)
builtin_heard event found inputs result constraint is inputs_are result_is =
    let both = all_heard-join (waits_each event inputs) (waits_some event result) inputs (option_to_list result) (all_heard-each event inputs) (all_heard-each event (option_to_list result)) in
    let here = subst (λ (xs : List Subscription). AreHeard xs (inputs ++ option_to_list result)) (sym is) both in
    subst (λ (o : Option (List Term)). IfSome o (λ xs. AreHeard found (xs ++ option_to_list (result_of constraint)) → AreHeard found (terms_of constraint))) inputs_are (parts_heard found constraint)
    (subst (λ (r : Option Term). AreHeard found (inputs ++ option_to_list r)) (sym result_is) here)
