use Rattle.std.proofs.Common.{get_or, pos, ◌∙◌, below_more, subst, sym, rules, arith}
use Rattle.std.specs.List.{Contains}
use Rattle.std.proofs.lemmas.Int.{to_z-of_z}
use Rattle.fzn_values.proofs.all_different.has_marked.Goals as goal
use mir.Syntax.{w64}
use mir.Val.{SFits}

pub loop-place-preserved : goal.loop-place-preserved
loop-place-preserved c =
    let fits : SFits w64 c.get.result = search rules in
    below_more (λ k. Contains c.args.block.now (get_or c.args.rest.now k (pos 0)) → ⊥) c.loop-place.place c.loop-place.invariant
    (λ h. absurd (cc (c.is_in_marked.ensures.1 (subst (Contains c.args.block.now) (sym (to_z-of_z w64 c.get.result fits ∙ c.get.ensures)) h), c.if-is_in_marked.false)))

pub returns : goal.returns
returns c = ((λ y. absurd (cc y)), (λ h. absurd (c.loop-place.invariant h.0 (omega (arith, h.1)) h.2)))
