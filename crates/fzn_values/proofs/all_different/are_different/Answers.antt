use Rattle.std.proofs.Common.{◌∙◌, rules, arith}
use Rattle.std.proofs.lemmas.Int.{to_z-of_z}
use Rattle.fzn_values.proofs.AllDifferentLemmas.{found_in, not_in}
use Rattle.fzn_values.proofs.all_different.are_different.Goals as goal
use mir.Syntax.{w64}
use mir.Val.{SFits}

-- the value stands again behind its place
pub returns-then-contains : goal.returns-then-contains
returns-then-contains c =
    let fits : SFits w64 c.get.result = search rules in (
      (λ y. absurd (cc y)),
      (λ h. absurd (found_in c.args.places.now c.from.result _ c.loop-place.place (omega arith) c.from.ensures (to_z-of_z w64 c.get.result fits ∙ c.get.ensures) (c.contains.ensures.0 c.if-contains.true) h)),
    )

pub loop-place-preserved : goal.loop-place-preserved
loop-place-preserved c =
    let fits : SFits w64 c.get.result = search rules in
    not_in c.args.places.now c.from.result _ c.loop-place.place (omega arith) c.from.ensures (to_z-of_z w64 c.get.result fits ∙ c.get.ensures)
    (λ h. absurd (cc (c.contains.ensures.1 h, c.if-contains.false))) c.loop-place.invariant
