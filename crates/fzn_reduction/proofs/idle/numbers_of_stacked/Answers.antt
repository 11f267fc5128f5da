-- An inference that was written has its number among those found.
use Rattle.std.proofs.Common.{ℕ, ◌+◌, ◌<◌, List, length, sym, ap, ◌∙◌, subst, arith}
use Rattle.fzn_propagator.specs.declared.inferences.Inferred.{Inferred}
use Rattle.fzn_reduction.proofs.DeletionLemmas.{AreOfStacked, AreOfStacked-push, AreOfStacked-skip}
use Rattle.fzn_reduction.proofs.idle.numbers_of_stacked.Goals as goal
use Rattle.fzn_reduction.proofs.idle.numbers_of_stacked.Goals.{in-Some+in_ok-push, in_default}

pub loop-place-preserved : goal.loop-place-preserved
loop-place-preserved c =
    let stack = c.args.inferences.now in
    let within : c.loop-place.place < length c.args.inferences.now = omega arith in
    elim c.match-get.branch [
      | in-Some+in_ok-push w ↦
          let more = AreOfStacked-push stack c.loop-place.found.items c.loop-place.place c.loop-place.invariant w.in-Some.number within (ap (λ (i : Inferred). i.number) (sym c.get.ensures) ∙ w.in-Some.is) in
          let F : List ℕ → Type 0 = λ found. AreOfStacked stack found (c.loop-place.place + 1) in
          subst F (sym (ap (λ v. v.items) w.found-is ∙ w.in_ok-push.ensures.items)) more
      | in_default w ↦
          let more = AreOfStacked-skip stack c.loop-place.found.items c.loop-place.place c.loop-place.invariant (ap (λ (i : Inferred). i.number) (sym c.get.ensures) ∙ w.in_default.is) in
          let F : List ℕ → Type 0 = λ found. AreOfStacked stack found (c.loop-place.place + 1) in
          subst F (sym (ap (λ v. v.items) w.found-is)) more
    ]

pub returns-clause-all : goal.returns-clause-all
returns-clause-all c n is =
    let below : is.0 < c.loop-place.place = omega (arith, is.1) in
    c.loop-place.invariant.0 is.0 n below is.2
