use Rattle.std.proofs.Common.{◌∙◌, subst}
use Rattle.std.proofs.lemmas.Result.{on_ok_weaker}
use Rattle.fzn_domain.proofs.DomainLemmas.{real}
use Rattle.fzn_terms.specs.declared.claim.Claim.{Claim}
use Rattle.fzn_terms.specs.Denied.{IsClaimExplained}
use Rattle.fzn_cumulative.proofs.LoadLemmas.{no_more}
use Rattle.fzn_cumulative.specs.Passes.{tasks_of}
use Rattle.fzn_cumulative.proofs.load.explain_capacity.Goals as goal

pub returns : goal.returns
returns c =
    on_ok_weaker c.explain.result
    (λ said. no_more c.args.pass.now.trail.now (tasks_of c.args.pass.now) _ c.explain.new.clause c.args.pass.now.ready.capacity (real _ c.greatest_of-capacity.ensures.in_limits ∙ c.greatest_of-capacity.ensures.value)
    c.clear.new.self (subst (λ (claim : Claim). IsClaimExplained c.args.pass.now.trail.now claim c.clear.new.self c.explain.new.clause) c.at_most.ensures said))
    c.explain.ensures
