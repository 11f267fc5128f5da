-- One number after the other.
use Rattle.std.proofs.Common.{ℕ, ◌<◌, List, [], ◌∷◌, ◌++◌, get_or, length, refl, sym, ◌∙◌, subst, arith}
use Rattle.std.proofs.lemmas.List.Elements.{Contains-get_or}
use Rattle.fzn_reduction.proofs.DeletionLemmas.{AreIdle, AreIdle-none, AreIdle-push}
use Rattle.fzn_reduction.proofs.idle.idle_among.Goals as goal
use Rattle.fzn_reduction.proofs.idle.idle_among.Goals.{then-is_next+in_ok-push, else-is_next}

pub loop-i-init : goal.loop-i-init
loop-i-init c =
    let P : List ℕ → Type 0 = λ ids. AreIdle c.args.alive.now c.args.used.now ids 0 in
    subst P (sym c.new-ids.ensures) (AreIdle-none c.args.alive.now c.args.used.now)

pub loop-i-preserved : goal.loop-i-preserved
loop-i-preserved c =
    let alive = c.args.alive.now in
    let within : c.loop-i.i < length c.args.alive.now = omega arith in
    let there = Contains-get_or alive c.loop-i.i 0 within in
    elim c.if-is_next.branch [
      | then-is_next+in_ok-push w ↦
          let more = AreIdle-push alive c.args.used.now c.loop-i.ids c.loop-i.last (get_or alive c.loop-i.i 0) c.loop-i.invariant (w.if-is_next.ensures.above refl) there (w.if-is_next.ensures.idle refl) in
          let I : List ℕ → Type 0 = λ ids. AreIdle alive c.args.used.now ids c.if-is_next.last in
          let L : ℕ → Type 0 = λ last. AreIdle alive c.args.used.now (c.loop-i.ids ++ get_or alive c.loop-i.i 0 ∷ []) last in
          subst I (sym (w.ids-is ∙ w.in_ok-push.ensures.ok)) (subst L (sym w.last-is) more)
      | else-is_next w ↦
          let I : List ℕ → Type 0 = λ ids. AreIdle alive c.args.used.now ids c.if-is_next.last in
          let L : ℕ → Type 0 = λ last. AreIdle alive c.args.used.now c.loop-i.ids last in
          subst I (sym w.ids-is) (subst L (sym w.last-is) c.loop-i.invariant)
    ]
