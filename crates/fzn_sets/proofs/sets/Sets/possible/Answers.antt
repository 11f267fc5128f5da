use Rattle.fzn_sets.proofs.SetsLemmas.{several}
use Rattle.fzn_sets.proofs.sets.Sets.possible.Goals as goal

-- a literal was found before this one
pub returns-in_default : goal.returns-in_default
returns-in_default c =
    several c.args.self.now.present c.args.clause.now c.loop-lit.lit-index c.loop-lit.found _ c.domain.result.now c.is_false.result
    c.loop-lit.invariant c.in_default.not-Nothing c.loop-lit-test.true c.domain.ensures c.is_false.ensures c.if-not-is_false.true
