use Rattle.std.proofs.Common.{rules, arith, ◌≡◌, ℤ, ◌-ℤ◌, FitsSigned, w64, to_z, of_z, sym, ap, ◌∙◌}
use Rattle.std.proofs.lemmas.Int.{ints, to_z-of_z}
use mir.Syntax.{w128}
use Rattle.fzn_dependence.specs.declared.dependence.Dependence.{Dependence}
use Rattle.fzn_dependence.specs.Decided.{quotient}
use Rattle.fzn_dependence.specs.Dependence.{affine_at, dependent_at}
use Rattle.fzn_dependence.proofs.dependence.Dependence.at.Goals as goal

pub returns-in-Equation : goal.returns-in-Equation
returns-in-Equation c =
    let sum = c.in-Equation.sum in
    let bound = c.in-Equation.bound in
    let value = c.args.value.now in
    let at = c.at-in-Equation.result in
    let at_small = c.at-in-Equation.ensures.bounded in
    let bound_fits : FitsSigned w64 bound = search rules in
    let besides_fits : FitsSigned w128 sum.besides = search rules in
    let number : ℤ = to_z w128 (of_z w128 (to_z w128 (of_z w128 (to_z w64 (of_z w64 bound))) -ℤ to_z w128 (of_z w128 at))) in
    let number_is : number ≡ bound -ℤ at = omega (arith, ints) in
    ((c.quotient.ensures ∙ ap (λ (x : ℤ). quotient x (to_z w128 (of_z w128 sum.besides))) (number_is ∙ ap (λ (x : ℤ). bound -ℤ x) c.at-in-Equation.ensures.value)) ∙ ap (quotient (bound -ℤ affine_at sum value)) (to_z-of_z w128 sum.besides besides_fits)) ∙ sym (ap (λ (e : Dependence). dependent_at e value) c.in-Equation.is)
