use Rattle.fzn_terms.proofs.ExplanationLemmas.{says_more}
use Rattle.fzn_terms.proofs.explanation.explanation_of.Goals as goal

pub loop-claim-preserved : goal.loop-claim-preserved
loop-claim-preserved c =
    let said = c.in_ok-say.ensures c.if-not-branch.false in
    record {
      over = said.over;
      denies = says_more c.args.trail.now.declared c.args.claims.now c.loop-claim.claim-index _ c.loop-claim.clause c.say.new.clause c.loop-claim-test.true c.loop-claim.invariant.denies said;
    }
