use Rattle.std.proofs.Common.{ℕ, Vec, Global, true, false, ap, sym, ◌∙◌, append-nil}
use Rattle.fzn_core.proofs.MarksLemmas.{listed-more}
use Rattle.fzn_core.proofs.needed.marked_numbers.Goals as goal
use Rattle.fzn_core.proofs.needed.marked_numbers.Goals.{then-marks-before+in_ok-push, else-marks-before}

pub loop-before-preserved : goal.loop-before-preserved
loop-before-preserved c =
    let marks = c.args.marks.now in
    let before = c.loop-before.before in
    let old = c.loop-before.numbers.items in
    elim c.if-marks-before.branch [
      | then-marks-before+in_ok-push w ↦
          ap (λ (v : Vec ℕ Global). v.items) w.numbers-is ∙ w.in_ok-push.ensures.items ∙ listed-more marks before old c.loop-before.invariant true w.if-marks-before.true
      | else-marks-before w ↦
          ap (λ (v : Vec ℕ Global). v.items) w.numbers-is ∙ sym (append-nil old) ∙ listed-more marks before old c.loop-before.invariant false w.if-marks-before.false
    ]
