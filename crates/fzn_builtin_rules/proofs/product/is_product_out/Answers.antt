use Rattle.std.proofs.Common.{ℤ, List, ◌<ℤ◌, refl, sym, subst, inl, inr}
use Rattle.std.specs.List.{All}
use Rattle.std.proofs.lemmas.Bool.{false≢true}
use Rattle.fzn_sets.specs.Terms.{least_value, greatest_value}
use Rattle.fzn_builtin_rules.proofs.product.is_product_out.Goals as goal

pub returns-then-all_above : goal.returns-then-all_above
returns-then-all_above c = (
  λ yes. inl (subst (All (λ (product : ℤ). greatest_value c.args.sets.now.present c.args.of <ℤ product)) c.corners-corners.ensures (c.if-all_above.ensures.0 refl)),
  λ out. c.if-all_above.true,
)

pub returns-else-all_above : goal.returns-else-all_above
returns-else-all_above c =
    let above : List ℤ → Type 0 = All (λ (product : ℤ). greatest_value c.args.sets.now.present c.args.of <ℤ product) in
    let below : List ℤ → Type 0 = All (λ (product : ℤ). product <ℤ least_value c.args.sets.now.present c.args.of) in (
      λ yes. inr (subst below c.corners-corners.ensures (c.all_below.ensures.0 yes)),
      λ out. elim out [
        | inl all ↦ absurd (false≢true (c.if-all_above.ensures.1 (subst above (sym c.corners-corners.ensures) all)))
        | inr all ↦ c.all_below.ensures.1 (subst below (sym c.corners-corners.ensures) all)
      ],
    )
