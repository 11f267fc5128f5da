use Rattle.std.proofs.Common.{◌≤◌, length, take, sym, subst, arith}
use Rattle.std.proofs.lemmas.Bool.{both_ways, not-true, not_from_false, false_from_ne_true}
use Rattle.fzn_values.specs.AllDifferent.{IsAllDifferent, ShareValue}
use Rattle.fzn_values.proofs.AllDifferentLemmas.{front-parts, parts-front, parts-none}
use Rattle.fzn_values.proofs.all_different.front_differs.Goals as goal

-- the block against the rest
pub returns-then-are_different : goal.returns-then-are_different
returns-then-are_different c =
    let some : 512 ≤ length c.args.places.now = omega arith in
    let front : IsAllDifferent (take 512 c.args.places.now) = subst IsAllDifferent c.before-block.ensures (c.are_different-2.ensures.0 c.if-are_different.true) in (
      (λ y. front-parts c.args.places.now 512 some front
          (λ shared. both_ways c.share_value.result (not-true c.share_value.result y)
          (c.share_value.ensures.1 (subst (λ b. ShareValue b c.from.result) (sym c.before-block.ensures) (subst (ShareValue (take 512 c.args.places.now)) (sym c.from.ensures) shared))))),
      (λ h. not_from_false c.share_value.result (false_from_ne_true c.share_value.result
          (λ e. parts-none c.args.places.now 512 some h
          (subst (ShareValue (take 512 c.args.places.now)) c.from.ensures (subst (λ b. ShareValue b c.from.result) c.before-block.ensures (c.share_value.ensures.0 e)))))),
    )

pub returns-else-are_different : goal.returns-else-are_different
returns-else-are_different c =
    let some : 512 ≤ length c.args.places.now = omega arith in (
      (λ y. absurd (both_ways c.are_different-2.result c.if-are_different.false y)),
      (λ h. c.are_different-2.ensures.1 (subst IsAllDifferent (sym c.before-block.ensures) (parts-front c.args.places.now 512 some h))),
    )
