-- A clause that is held has its number among those found.
use Rattle.std.proofs.Common.{ℕ, ◌+◌, List, get_or, refl, sym, ap, ◌∙◌, subst}
use Rattle.std.proofs.lemmas.Bool.{false≢true}
use Rattle.fzn_clauses.specs.Watching.{held_by}
use Rattle.fzn_reduction.proofs.DeletionLemmas.{AreOfHeld, AreOfHeld-push, AreOfHeld-skip}
use Rattle.fzn_reduction.proofs.idle.numbers_of_held.Goals as goal
use Rattle.fzn_reduction.proofs.idle.numbers_of_held.Goals.{then-is_held+in_ok-push, else-is_held}

pub loop-i-preserved : goal.loop-i-preserved
loop-i-preserved c =
    let held = held_by c.args.clauses.now in
    let numbers = c.args.numbers.now in
    elim c.if-is_held.branch [
      | then-is_held+in_ok-push w ↦
          let more = AreOfHeld-push held numbers c.loop-i.found.items c.loop-i.i c.loop-i.invariant (get_or numbers c.loop-i.i 0) refl (w.if-is_held.ensures.0 refl) in
          let F : List ℕ → Type 0 = λ found. AreOfHeld held numbers found (c.loop-i.i + 1) in
          subst F (sym (ap (λ v. v.items) w.found-is ∙ w.in_ok-push.ensures.items)) more
      | else-is_held w ↦
          let more = AreOfHeld-skip held numbers c.loop-i.found.items c.loop-i.i c.loop-i.invariant (λ is. false≢true (w.if-is_held.ensures.1 is)) in
          let F : List ℕ → Type 0 = λ found. AreOfHeld held numbers found (c.loop-i.i + 1) in
          subst F (sym (ap (λ v. v.items) w.found-is)) more
    ]
