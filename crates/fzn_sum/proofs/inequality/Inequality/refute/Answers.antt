use Rattle.std.proofs.Common.{arith, List, Option, length, sym, subst, ℤ, pos, ◌≤ℤ◌, IfSome, IfNone}
use Rattle.std.proofs.lemmas.Int.{ints}
use Rattle.std.proofs.lemmas.List.Elements.{All-get_or}
use Rattle.fzn_domain.specs.declared.literal.Lit.{Lit}
use Rattle.fzn_values.specs.declared.term.Place.{Place}
use Rattle.fzn_values.specs.declared.term.Term.TheVariants.{Constant}
use Rattle.fzn_meaning.specs.declared.relation.Comparison.TheVariants.{AtMost}
use Rattle.fzn_values.specs.Term.{IsPlace}
use Rattle.fzn_builtin_rules.specs.Linear.{least_sum}
use Rattle.fzn_propagator.specs.Inference.{IsTight}
use Rattle.fzn_sum.specs.declared.at_most.PlaceFloor.{PlaceFloor}
use Rattle.fzn_sum.specs.Explained.{AreFloors}
use Rattle.fzn_sum.specs.Refuted.{IsSumConflict, IsRefutation}
use Rattle.fzn_sum.proofs.ClauseLemmas.{forcing}
use Rattle.fzn_sum.proofs.RefutedLemmas.{refutation_of}
use Rattle.fzn_sum.proofs.EndLemmas.{tight_within}
use Rattle.fzn_sum.proofs.inequality.Inequality.refute.Goals as goal

pub returns-in-Some-clause-found : goal.returns-in-Some-clause-found
returns-in-Some-clause-found c =
    let sum = c.args.self.now in
    refutation_of sum.trail.now AtMost sum.places.now sum.bound c.in-Some.clause
    (subst (λ (f : Option (List Lit)). IfSome f (IsSumConflict c.args.self.now.trail.now AtMost c.args.self.now.places.now c.args.self.now.bound)) c.in-Some.is c.in_ok-clause.ensures.found)

pub returns-in_default-slack-clause-none : goal.returns-in_default-slack-clause-none
returns-in_default-slack-clause-none c =
    c.in_default-slack.ensures.none (subst (λ (f : Option (List Lit)). IfNone f (least_sum c.args.self.now.trail.now.sets c.args.self.now.places.now ≤ℤ c.args.self.now.bound)) c.in_default.is c.in_ok-clause.ensures.none)

pub returns-in_default-next_forced-clause-none : goal.returns-in_default-next_forced-clause-none
returns-in_default-next_forced-clause-none c =
    let sum = c.args.self.now in
    subst (λ (b : ℤ). IsTight c.args.self.now.trail.now.sets c.args.self.now.places.now b) c.in-Some-slack.ensures.found
    (tight_within sum.trail.now.sets sum.places.now (pos c.in-Some-slack.slack) (omega (arith, ints)) (λ k d below. c.in_default-next_forced.ensures.none k d (omega arith) below))

pub returns-clause-found : goal.returns-clause-found
returns-clause-found c =
    let at : Place = record { coefficient = pos 0; term = Constant (pos 0) } in
    let sum = c.args.self.now in
    let forced = c.in-Some-next_forced.ensures.found in
    let floors = subst (λ (fs : List PlaceFloor). AreFloors c.args.self.now.trail.now c.args.self.now.places.now (length c.args.self.now.places.now) fs) (sym c.as_slice.ensures) c.in_ok-floors.ensures in
    subst (λ (xs : List Lit). IsRefutation c.args.self.now.trail.now AtMost c.args.self.now.places.now c.args.self.now.bound xs) (sym c.in_ok-push.ensures.ok)
    (forcing sum.trail.now sum.places.now sum.bound c.in-Some-slack.slack c.in_ok-clause-2.clause c.in-Some-next_forced.forced.place at c.in-Some-next_forced.forced.lit (sym c.in-Some-slack.ensures.found) forced.in_places
    (All-get_or (IsPlace (length c.args.self.now.trail.now.declared)) c.args.self.now.places.now c.in-Some-next_forced.forced.place at forced.in_places sum.fit) (forced.literal at) (c.in_ok-clause-2.ensures sum.trail.now sum.places.now sum.fit floors))
