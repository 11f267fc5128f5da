use Rattle.std.proofs.Common.{◌+◌, List, length, sym, subst, ◌∙◌, pos}
use Rattle.std.proofs.lemmas.List.Elements.{All-get_or}
use Rattle.fzn_domain.specs.declared.literal.Lit.{Lit}
use Rattle.fzn_values.specs.declared.term.Place.{Place}
use Rattle.fzn_values.specs.declared.term.Term.TheVariants.{Constant}
use Rattle.fzn_values.specs.Term.{IsPlace}
use Rattle.fzn_sum.specs.Pinned.{ArePinned}
use Rattle.fzn_sum.proofs.PinLemmas.{pins_same, pins_empty, pins_push}
use Rattle.fzn_sum.proofs.not_equal.pins.Goals as goal
use Rattle.fzn_sum.proofs.not_equal.pins.Goals.{then-i-except+in-Some+in_ok-push, then-i-except+in_default, else-i-except}

pub loop-i-preserved : goal.loop-i-preserved
loop-i-preserved c =
    let at : Place = record { coefficient = pos 0; term = Constant (pos 0) } in
    elim c.if-i-except.branch [
      | then-i-except+in-Some+in_ok-push w ↦
          subst (λ (xs : List Lit). ArePinned c.args.trail.now c.args.places.now (c.loop-i.i + 1) c.args.except xs)
          (sym w.in_ok-push.ensures.ok ∙ sym w.clause-is)
          (pins_push c.args.trail.now c.args.places.now c.loop-i.i c.args.except c.loop-i.clause at w.in-Some.lit c.loop-i-test.true
          (All-get_or (IsPlace (length c.args.trail.now.declared)) c.args.places.now c.loop-i.i at c.loop-i-test.true c.requires.places) c.loop-i.invariant w.in-Some.ensures.found)
      | then-i-except+in_default w ↦
          subst (λ (xs : List Lit). ArePinned c.args.trail.now c.args.places.now (c.loop-i.i + 1) c.args.except xs) (sym w.clause-is)
          (pins_empty c.args.trail.now c.args.places.now c.loop-i.i c.args.except c.loop-i.clause at c.loop-i-test.true c.loop-i.invariant w.in_default.ensures.none)
      | else-i-except w ↦
          subst (λ (xs : List Lit). ArePinned c.args.trail.now c.args.places.now (c.loop-i.i + 1) c.args.except xs) (sym w.clause-is)
          (pins_same c.args.trail.now c.args.places.now c.loop-i.i c.args.except c.loop-i.clause at c.loop-i-test.true c.loop-i.invariant
          (λ apart. absurd (apart w.if-i-except.false)))
    ]
