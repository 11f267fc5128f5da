use mir.Syntax.{w128}
use Rattle.std.proofs.Common.{rules, ◌∙◌, sym, ap, subst, ℤ, Option, Some, FitsSigned}
use Rattle.std.proofs.lemmas.Int.{to_z-of_z}
use Rattle.fzn_levels.specs.ByWeight.{HaveLighter}
use Rattle.fzn_levels.proofs.explain.light_of.Goals as goal

pub returns-in-Some-Some : goal.returns-in-Some-Some
returns-in-Some-Some c =
    let fits : FitsSigned w128 c.in-Some-Some.level = search rules in
    subst (λ (l : Option ℤ). HaveLighter c.args.part.now c.args.listed.now l c.lighter.result.now) (ap (λ (x : ℤ). Some x) (to_z-of_z w128 c.in-Some-Some.level fits) ∙ sym c.in-Some-Some.is-1) c.lighter.ensures
