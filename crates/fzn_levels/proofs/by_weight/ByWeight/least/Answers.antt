use mir.Syntax.{w128}
use Rattle.std.proofs.Common.{rules, arith, ◌≡◌, ◌∙◌, List, ℕ, length, true, sym, ap, subst, get_or, ℤ, pos, ◌+ℤ◌, Some, FitsSigned, w64}
use Rattle.std.proofs.lemmas.Int.{to_z-of_z}
use Rattle.fzn_domain.specs.IntSet.{contains}
use Rattle.fzn_meaning.specs.Separable.{weight_at}
use Rattle.fzn_rules.specs.Separable.{IsLeastOf, IsVariableWeightIn}
use Rattle.fzn_levels.proofs.ByWeightLemmas.{Weighs, NoneBefore, least_first, least_none}
use Rattle.fzn_levels.proofs.by_weight.ByWeight.least.Goals as goal

pub returns-in-loop-i-clause-least : goal.returns-in-loop-i-clause-least
returns-in-loop-i-clause-least c =
    let set = c.args.set.now in
    let part = c.args.part.now in
    let listed = c.args.listed.now in
    let i = c.loop-i.i-index in
    let weight = c.in-Some.weight in
    let fits : FitsSigned w128 c.in-Some.weight = search rules in
    let value : FitsSigned w64 c.value_at.result = search rules in
    let at : listed.low +ℤ pos (get_or c.as_slice-i-items.result.now i 0) ≡ listed.low +ℤ pos (get_or c.args.self.now.order.items i 0) = ap (λ (xs : List ℕ). listed.low +ℤ pos (get_or xs i 0)) c.as_slice-i-items.ensures.value in
    let weighs : Weighs c.args.part.now c.args.listed.now (get_or c.args.self.now.order.items c.loop-i.i-index 0) c.in-Some.weight = ap (weight_at part) (sym at) ∙ sym c.entry_weight.ensures.value ∙ c.in-Some.is in
    let member : contains c.args.set.now (c.args.listed.now.low +ℤ pos (get_or c.args.self.now.order.items c.loop-i.i-index 0)) ≡ true = ap (contains set) (sym (to_z-of_z w64 c.value_at.result value ∙ c.value_at.ensures.value ∙ at)) ∙ sym c.contains.ensures ∙ c.if-contains.true in
    subst (λ (x : ℤ). IsLeastOf (IsVariableWeightIn c.args.set.now c.args.part.now) (Some x)) (sym (to_z-of_z w128 c.in-Some.weight fits))
    (least_first set part listed c.args.self.now c.requires.of c.requires.order i weight c.loop-i.invariant member weighs)

pub returns-clause-least : goal.returns-clause-least
returns-clause-least c =
    let past = c.loop-i.auto.i-index-end in
    let end = c.loop-i-test.false in
    let len = ap length c.as_slice-i-items.ensures.value in
    let whole : c.loop-i.i-index ≡ length c.args.self.now.order.items = omega arith in
    least_none c.args.set.now c.args.part.now c.args.listed.now c.args.self.now c.requires.of c.requires.order
    (subst (NoneBefore c.args.set.now c.args.part.now c.args.listed.now c.args.self.now.order.items) whole c.loop-i.invariant)
