use Rattle.std.proofs.Common.{arith, List, Option, get_or, subst, ℤ, pos, ◌≤ℤ◌, IfNone}
use Rattle.std.proofs.lemmas.Int.{ints}
use Rattle.std.proofs.lemmas.Option.{IfSome_then}
use Rattle.fzn_domain.specs.declared.literal.Lit.{Lit}
use Rattle.fzn_values.specs.declared.term.Place.{Place}
use Rattle.fzn_meaning.specs.declared.relation.Comparison.TheVariants.{AtMost}
use Rattle.fzn_propagator.specs.Inference.{IsTight, spread_of_place}
use Rattle.fzn_sum.specs.Refuted.{IsRefutation}
use Rattle.fzn_linear.proofs.PassLemmas.{adds_none, adds_both, within_more}
use Rattle.fzn_linear.proofs.RefuteLemmas.{cause_of_forced}
use Rattle.fzn_sum.proofs.CallerLemmas.{tight_within}
use Rattle.fzn_linear.proofs.side.Side.force.Goals as goal

pub loop-place-init : goal.loop-place-init
loop-place-init c = record { adds = adds_none _ _ _ _; none = λ empty k d after below. absurd (omega arith) }

pub hand_over-requires : goal.hand_over-requires
hand_over-requires c =
    let part = c.args.part.now in
    IfSome_then c.in_ok-clause.clause c.in_ok-clause.ensures.found (λ clause refutes.
    cause_of_forced c.args.self.now clause part c.requires.part c.requires.decided (subst (λ (b : ℤ). IsRefutation c.args.part.now.trail.now AtMost c.args.part.now.places.now b clause) c.in-Some.ensures.found refutes))

pub loop-place-preserved : goal.loop-place-preserved
loop-place-preserved c =
    let part = c.args.part.now in
    let before = c.loop-place.invariant in
    record {
      adds = adds_both _ _ _ _ _ _ before.adds c.hand_over.ensures.found;
      none = λ empty. within_more (λ (p : Place). spread_of_place part.trail.now.sets p ≤ℤ pos c.in-Some.slack) part.places.now c.loop-place.place (before.none (c.hand_over.ensures.found.kept empty))
          (subst (λ (f : Option (List Lit)). IfNone f ((d : Place) → spread_of_place c.args.part.now.trail.now.sets (get_or c.args.part.now.places.now c.loop-place.place d) ≤ℤ pos c.in-Some.slack)) (c.in_ok-hand_over.ensures.none empty) c.in_ok-clause.ensures.none);
    }

pub returns-clause-none : goal.returns-clause-none
returns-clause-none c = λ empty fits.
    let part = c.args.part.now in
    subst (λ (b : ℤ). IsTight c.args.part.now.trail.now.sets c.args.part.now.places.now b) c.in-Some.ensures.found
    (tight_within part.trail.now.sets part.places.now (pos c.in-Some.slack) (omega (arith, ints)) (λ k d below. c.loop-place.invariant.none empty k d (omega arith) (omega arith)))
