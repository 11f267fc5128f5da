use Rattle.std.proofs.Common.{rules, w64, to_z, of_z, FitsSigned, ℤ, ◌≡◌, not, ap₂, ◌∙◌}
use Rattle.std.proofs.lemmas.Int.{to_z-of_z}
use Rattle.fzn_domain.specs.IntSet.{IntSet, is_possible}
use Rattle.fzn_terms.proofs.ExplanationLemmas.{never_variable}
use Rattle.fzn_terms.proofs.explanation.is_denied.Goals as goal

pub returns-in-Variable : goal.returns-in-Variable
returns-in-Variable c =
    let fits : FitsSigned w64 c.args.claim.number = search rules in
    let same : to_z w64 (of_z w64 c.args.claim.number) ≡ c.args.claim.number = to_z-of_z w64 c.args.claim.number fits in
    never_variable c.args.trail.now.sets c.args.claim c.in-Variable.var _ c.in-Variable.is
    (c.is_false.ensures ∙ ap₂ (λ (s : IntSet) (x : ℤ). not (is_possible s (record { var = c.in-Variable.var; op = c.args.claim.op; value = x }))) c.domain.ensures.value same)
