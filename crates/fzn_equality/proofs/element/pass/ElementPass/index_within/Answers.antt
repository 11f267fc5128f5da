use Rattle.std.proofs.Common.{◌∷◌, []}
use Rattle.fzn_rules.specs.declared.rule.Rule.TheVariants as rule
use Rattle.fzn_terms.proofs.ExplanationLemmas.{justified_found}
use Rattle.fzn_equality.specs.ElementPasses.{element_constraint}
use Rattle.fzn_equality.proofs.EntryLemmas.{refuted_outside}
use Rattle.fzn_equality.proofs.element.pass.ElementPass.index_within.Goals as goal

pub returns : goal.returns
returns c =
    let pass = c.args.self.now in
    justified_found c.explanation_of.result pass.trail.now (c.within.result ∷ []) (element_constraint pass) rule.Rows
    (refuted_outside pass c.within.result c.within.ensures.within)
    c.explanation_of.ensures
