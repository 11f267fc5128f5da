use Rattle.std.proofs.Common.{◌+◌, ℕ, List, sym, subst, ◌∙◌, pos, arith}
use Rattle.fzn_values.specs.declared.term.Place.{Place}
use Rattle.fzn_values.specs.declared.term.Term.TheVariants.{Constant}
use Rattle.fzn_sum.specs.declared.at_most.PlaceFloor.{PlaceFloor}
use Rattle.fzn_sum.specs.Explained.{AreFloors}
use Rattle.fzn_sum.proofs.FloorLemmas.{floors_none, floors_same, floors_push}
use Rattle.fzn_sum.proofs.at_most.floors_of.Goals as goal
use Rattle.fzn_sum.proofs.at_most.floors_of.Goals.{in-Some+in_ok-push, in_default}

pub loop-i-init : goal.loop-i-init
loop-i-init c =
    subst (λ (fs : List PlaceFloor). AreFloors c.args.trail.now c.args.places.now 0 fs) (sym c.in_ok-floors.ensures) (floors_none c.args.trail.now c.args.places.now)

pub loop-i-preserved : goal.loop-i-preserved
loop-i-preserved c =
    let at : Place = record { coefficient = pos 0; term = Constant (pos 0) } in
    elim c.match-floor.branch [
      | in-Some+in_ok-push w ↦
          subst (λ (fs : List PlaceFloor). AreFloors c.args.trail.now c.args.places.now (c.loop-i.i + 1) fs) (sym w.in_ok-push.ensures.ok ∙ sym w.floors-is)
          (floors_push c.args.trail.now c.args.places.now c.loop-i.i c.loop-i.floors at w.in-Some.lit c.loop-i-test.true c.loop-i.invariant w.in-Some.ensures.found)
      | in_default w ↦
          subst (λ (fs : List PlaceFloor). AreFloors c.args.trail.now c.args.places.now (c.loop-i.i + 1) fs) (sym w.floors-is)
          (floors_same c.args.trail.now c.args.places.now c.loop-i.i c.loop-i.floors at c.loop-i-test.true c.loop-i.invariant w.in_default.ensures.none)
    ]

pub returns : goal.returns
returns c =
    subst (λ (n : ℕ). AreFloors c.args.trail.now c.args.places.now n c.loop-i.floors) (omega arith) c.loop-i.invariant
