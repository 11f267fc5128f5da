use Rattle.std.proofs.Common.{rules, sym, ap₂, ◌∙◌, List, ℤ, None, Option, get_or, FitsSigned, w64}
use Rattle.std.proofs.lemmas.Int.{to_z-of_z}
use Rattle.fzn_meaning.specs.Separable.{weighed}
use Rattle.fzn_levels.proofs.WeightLemmas.{entry_weighs}
use Rattle.fzn_levels.proofs.weights.entry_weight.Goals as goal

pub returns-clause-value : goal.returns-clause-value
returns-clause-value c =
    let part = c.args.part.now in
    let listed = c.args.listed.now in
    let coefficient : FitsSigned w64 part.coefficient = search rules in
    let value : FitsSigned w64 c.value_at.result = search rules in
    let h = simp to_z-of_z at c.weighed.ensures.value in
    h ∙ ap₂ (λ (v : ℤ) (xs : List (Option ℤ)). weighed part.coefficient v (get_or xs c.args.i None)) c.value_at.ensures.value c.as_slice.ensures ∙ sym (entry_weighs part listed c.requires.of c.args.i)
