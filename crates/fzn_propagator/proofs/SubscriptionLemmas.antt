-- Terms of which some change is waited for.
use Rattle.std.proofs.Common.{List, [], ◌∷◌, ◌++◌, length-append, map, subst, arith}
use Rattle.std.specs.List.{All, flat_map}
use Rattle.std.proofs.lemmas.List.{get_or_append_left}
use Rattle.std.proofs.lemmas.List.Elements.{All-nil, All-cons, All-tail, All-append, All-weaker, Contains-append_left, Contains-append_right, Contains-push}
use Rattle.fzn_values.specs.declared.term.Term.{Term}
use Rattle.fzn_values.specs.declared.term.Term.TheVariants.{Constant, Variable}
use Rattle.fzn_propagator.specs.declared.event.Event.{Event}
use Rattle.fzn_propagator.specs.declared.subscriptions.Subscription.{Subscription}
use Rattle.fzn_propagator.specs.Subscriptions.{subscription, waits, waits_each, IsHeard, AreHeard}

-- more subscriptions, before or behind
heard-more : (xs ys : List Subscription) (term : Term) → IsHeard xs term → IsHeard (xs ++ ys) term
heard-more xs ys (Constant k) heard = tt
heard-more xs ys (Variable var) heard = (heard.0, Contains-append_left xs ys (subscription var heard.0) heard.1)

heard-later : (xs ys : List Subscription) (term : Term) → IsHeard ys term → IsHeard (xs ++ ys) term
heard-later xs ys (Constant k) heard = tt
heard-later xs ys (Variable var) heard = (heard.0, Contains-append_right xs ys (subscription var heard.0) heard.1)

pub all_heard-more : (xs ys : List Subscription) (terms : List Term) → AreHeard xs terms → AreHeard (xs ++ ys) terms
all_heard-more xs ys terms heard = All-weaker (IsHeard xs) (IsHeard (xs ++ ys)) (heard-more xs ys) terms heard

pub all_heard-later : (xs ys : List Subscription) (terms : List Term) → AreHeard ys terms → AreHeard (xs ++ ys) terms
all_heard-later xs ys terms heard = All-weaker (IsHeard ys) (IsHeard (xs ++ ys)) (heard-later xs ys) terms heard

heard-waits : (event : Event) (term : Term) → IsHeard (waits event term) term
heard-waits event (Constant k) = tt
heard-waits event (Variable var) = (event, Contains-push [] (subscription var event))

-- to wait for the term of each element is to hear all of these
pub all_heard-by : {X : Type 0} (event : X → Event) (term : X → Term) (xs : List X) → AreHeard (flat_map (λ x. waits (event x) (term x)) xs) (map term xs)
all_heard-by event term [] = All-nil (IsHeard [])
all_heard-by event term (x ∷ xs) =
    let own = waits (event x) (term x) in
    let others = flat_map (λ y. waits (event y) (term y)) xs in
    All-cons (IsHeard (own ++ others)) (term x) (map term xs) (heard-more own others (term x) (heard-waits (event x) (term x))) (all_heard-later own others (map term xs) (all_heard-by event term xs))

pub all_heard-each : (event : Event) (terms : List Term) → AreHeard (waits_each event terms) terms
all_heard-each event [] = All-nil (IsHeard [])
all_heard-each event (term ∷ terms) =
    let own = waits event term in
    let others = waits_each event terms in
    All-cons (IsHeard (own ++ others)) term terms (heard-more own others term (heard-waits event term)) (all_heard-later own others terms (all_heard-each event terms))

pub all_heard-one : (event : Event) (term : Term) → AreHeard (waits event term) (term ∷ [])
all_heard-one event term = All-cons (IsHeard (waits event term)) term [] (heard-waits event term) (All-nil (IsHeard (waits event term)))

-- two lists one after the other, each with its own event
pub all_heard-join : (xs ys : List Subscription) (terms others : List Term) → AreHeard xs terms → AreHeard ys others → AreHeard (xs ++ ys) (terms ++ others)
all_heard-join xs ys terms others heard later = All-append (IsHeard (xs ++ ys)) terms others (all_heard-more xs ys terms heard) (all_heard-later xs ys others later)

front : {X : Type 0} (P : X → Type 0) (xs ys : List X) → All P (xs ++ ys) → All P xs
front P xs ys all = λ k d below. subst P (get_or_append_left xs ys d k below) (all k d (omega (arith, length-append xs ys)))

back : {X : Type 0} (P : X → Type 0) (xs ys : List X) → All P (xs ++ ys) → All P ys
back P [] ys all = all
back P (x ∷ xs) ys all = back P xs ys (All-tail P x (xs ++ ys) all)

pub all_heard-swap : (subscriptions : List Subscription) (xs ys : List Term) → AreHeard subscriptions (xs ++ ys) → AreHeard subscriptions (ys ++ xs)
all_heard-swap subscriptions xs ys heard = let H = IsHeard subscriptions in All-append H ys xs (back H xs ys heard) (front H xs ys heard)
