use Rattle.std.proofs.Common.{◌∷◌, [], length, sym, subst}
use Rattle.fzn_values.specs.declared.term.Term.{Term}
use Rattle.fzn_rules.specs.declared.rule.Rule.TheVariants as rule
use Rattle.fzn_terms.proofs.ExplanationLemmas.{justified_found}
use Rattle.fzn_equality.specs.Shared.{IsMetApart}
use Rattle.fzn_equality.proofs.SharedLemmas.{refuted_apart}
use Rattle.fzn_equality.proofs.shared.explain_apart.Goals as goal

pub returns : goal.returns
returns c = λ constraint met.
    let count = length c.args.trail.now.declared in
    justified_found c.explanation_of.result c.args.trail.now (c.args.besides ∷ c.claim_of-claim.result ∷ c.in-Some.opposite ∷ []) constraint rule.Rows
    (refuted_apart count c.args.besides c.claim_of-claim.result c.in-Some.opposite c.args.other constraint c.in-Some.ensures (subst (λ (t : Term). IsMetApart count c.args.besides t c.args.other constraint) (sym c.claim_of-claim.ensures) met))
    c.explanation_of.ensures
