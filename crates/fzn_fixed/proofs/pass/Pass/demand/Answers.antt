use Rattle.std.proofs.Common.{◌≡◌, length, subst, arith, ℤ, Option, Some, IfSome}
use Rattle.std.proofs.lemmas.Int.{ints}
use Rattle.fzn_domain.specs.Limits.{IsInLimits}
use Rattle.fzn_values.specs.declared.term.Term.{Term}
use Rattle.fzn_values.specs.declared.term.Term.TheVariants.{Constant}
use Rattle.fzn_values.specs.Term.{IsTerm}
use Rattle.fzn_fixed.specs.Demand.{IsDemand}
use Rattle.fzn_fixed.proofs.pass.Pass.demand.Goals as goal
use mir.Syntax.{w64}
use mir.Val.{to_z, of_z}

pub returns-in-Constant : goal.returns-in-Constant
returns-in-Constant c =
    let declared = c.args.self.now.trail.now.declared in
    let k = c.in-Constant.k in
    let fits : IsTerm (length declared) c.in-Some.term = subst (λ (o : Option Term). IfSome o (IsTerm (length declared))) c.in-Some.is c.args.self.now.result_fits in
    let limits : IsInLimits k = subst (λ (t : Term). IsTerm (length declared) t) c.in-Constant.is fits in
    let passed : to_z w64 (of_z w64 k) ≡ k = omega (arith, ints, limits.0, limits.1) in
    rw (c.in-Some.is, c.in-Constant.is)
    (subst (λ (x : ℤ). IsDemand declared (Some (Constant x)) c.args.image c.of_constant.result) passed (c.of_constant.ensures declared))
