use Rattle.std.proofs.Common.{rules, ◌≡◌, refl, sym, subst, ℤ, pos, ◌+ℤ◌, ◌*ℤ◌, ◌≤ℤ◌, Option, None, Some, FitsSigned}
use Rattle.std.proofs.lemmas.Int.{to_z-of_z}
use Rattle.std.proofs.lemmas.Option.{IfSome_then}
use mir.Syntax.{w128}
use Rattle.fzn_meaning.specs.declared.row.VariablePart.{VariablePart}
use Rattle.fzn_meaning.specs.declared.row.Part.TheVariants as parts
use Rattle.fzn_meaning.specs.Separable.{weight_at}
use Rattle.fzn_levels.specs.Levels.{IsNoLighter}
use Rattle.fzn_levels.proofs.explain.explain_variable.Goals as goal

plain_weight : (part : VariablePart) (v : ℤ) → part.listed ≡ None → weight_at part v ≡ Some ((part.coefficient *ℤ v) +ℤ pos 0)
plain_weight part v plain = rw plain refl

pub light_of-light-requires-clause-order : goal.light_of-light-requires-clause-order
light_of-light-requires-clause-order c = IfSome_then c.args.order c.requires.order (λ by_weight is. is c.args.part.now c.in-Some-default.listed refl c.in-Some-default.is-0)

pub explain_plain-requires-clause-present : goal.explain_plain-requires-clause-present
explain_plain-requires-clause-present c =
    let fits : FitsSigned w128 c.in-None-Some.level = search rules in
    let there = subst (λ (l : Option ℤ). IsNoLighter c.args.pass.now.trail.now.sets (parts.Variable c.args.part.now) l) c.in-None-Some.is-1 c.requires.present in
    λ weight at. subst (λ (x : ℤ). x ≤ℤ weight) (sym (to_z-of_z w128 c.in-None-Some.level fits)) (there weight at)

pub returns-in-None-None : goal.returns-in-None-None
returns-in-None-None c =
    let none = subst (λ (l : Option ℤ). IsNoLighter c.args.pass.now.trail.now.sets (parts.Variable c.args.part.now) l) c.in-None-None.is-1 c.requires.present in
    absurd (none _ (c.least_of-value.result, c.least_of-value.ensures.member, plain_weight c.args.part.now c.least_of-value.result c.in-None-None.is-0))
