use Rattle.std.proofs.lemmas.Result.{IfOk-weaker}
use Rattle.std.proofs.lemmas.List.{get_or_default}
use Rattle.std.proofs.Common.{subst}
use Rattle.fzn_terms.specs.Denied.{IsDenied}
use Rattle.fzn_terms.proofs.CaseLemmas.{either}
use Rattle.fzn_terms.proofs.GrownLemmas.{said_forced}
use Rattle.fzn_terms.proofs.explanation.force_claims.Goals as goal

pub returns : goal.returns
returns c =
    IfOk-weaker c.force.result _ _
    (λ found.
    either found
    (λ forced. said_forced c.args.trail.now c.args.claims.now c.args.forced c.args.clause.now c.explain_claims.new.clause c.force.new.clause _ c.requires.forced c.in_ok-explain_claims.ensures forced)
    (λ none default. subst (IsDenied c.args.trail.now.sets) (get_or_default c.args.claims.now c.args.forced _ default c.requires.forced) none))
    c.force.ensures
