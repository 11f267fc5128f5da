use Rattle.std.proofs.Common.{arith, ◌≡◌, ℕ, ◌+◌, List, length, sym, subst, ◌∙◌, pos}
use Rattle.fzn_domain.specs.declared.literal.Lit.{Lit}
use Rattle.fzn_domain.specs.declared.literal.Op.TheVariants as op
use Rattle.fzn_sum.specs.declared.at_most.PlaceFloor.{PlaceFloor}
use Rattle.fzn_sum.specs.Explained.{HasFloors}
use Rattle.fzn_sum.proofs.FloorLemmas.{has_none, has_same, has_push, explanation_of}
use Rattle.fzn_sum.proofs.at_most.explain.Goals as goal
use Rattle.fzn_sum.proofs.at_most.explain.Goals.{then-floors-i+in_ok-push, else-floors-i}

any : PlaceFloor
any = record { place = 0; lit = record { var = record { 0 = 0 }; op = op.AtMost; value = pos 0 } }

pub loop-i-init : goal.loop-i-init
loop-i-init c = λ trail places fit are.
    subst (λ (xs : List Lit). HasFloors trail places c.args.floors.now 0 c.args.except xs) (sym c.in_ok-clause.ensures) (has_none trail places c.args.floors.now c.args.except)

pub loop-i-preserved : goal.loop-i-preserved
unfolding any
loop-i-preserved c = λ trail places fit are.
    let floors = c.args.floors.now in
    elim c.if-floors-i.branch [
      | then-floors-i+in_ok-push w ↦
          subst (λ (xs : List Lit). HasFloors trail places c.args.floors.now (c.loop-i.i + 1) c.args.except xs) (sym w.in_ok-push.ensures.ok ∙ sym w.clause-is)
          (has_push trail places floors c.args.except c.loop-i.i c.loop-i.clause any c.loop-i-test.true fit are.each (c.loop-i.invariant trail places fit are))
      | else-floors-i w ↦
          subst (λ (xs : List Lit). HasFloors trail places c.args.floors.now (c.loop-i.i + 1) c.args.except xs) (sym w.clause-is)
          (has_same trail places floors c.args.except c.loop-i.i c.loop-i.clause any c.loop-i-test.true (c.loop-i.invariant trail places fit are) w.if-floors-i.false)
    ]

pub returns : goal.returns
returns c = λ trail places fit are.
    let end : c.loop-i.i ≡ length c.args.floors.now = let t = c.loop-i-test.false in let h = c.loop-i.auto.i-end in omega arith in
    explanation_of trail places c.args.floors.now c.args.except c.loop-i.clause are
    (subst (λ (n : ℕ). HasFloors trail places c.args.floors.now n c.args.except c.loop-i.clause) end (c.loop-i.invariant trail places fit are))
