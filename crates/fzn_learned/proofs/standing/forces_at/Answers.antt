use Rattle.std.proofs.Common.{length, take, arith}
use Rattle.std.proofs.lemmas.Int.{ints}
use Rattle.fzn_domain.specs.declared.literal.Lit.{Lit}
use Rattle.fzn_domain.specs.Limits.{IsInLimits}
use Rattle.fzn_domain.specs.Narrow.{IsVariable}
use Rattle.fzn_trail.specs.Replay.{replayed}
use Rattle.fzn_learned.proofs.TrialLemmas.{only-has}
use Rattle.fzn_learned.proofs.standing.forces_at.Goals as goal

pub set_at-requires-clause-variable : goal.set_at-requires-clause-variable
set_at-requires-clause-variable c =
    let trail = c.args.trail.now in
    only-has (λ (lit : Lit). IsVariable (length trail.declared) lit.var) (replayed trail.declared (take c.args.count trail.entries)) c.args.clause.now c.in-Some.lit c.requires.over c.in-Some.ensures

pub negated-requires-clause-above_least : goal.negated-requires-clause-above_least
negated-requires-clause-above_least c =
    let trail = c.args.trail.now in
    let limits = only-has (λ (lit : Lit). IsInLimits lit.value) (replayed trail.declared (take c.args.count trail.entries)) c.args.clause.now c.in-Some.lit c.requires.in_limits c.in-Some.ensures in
    omega (arith, ints, limits.0, limits.1)

pub negated-requires-clause-below_greatest : goal.negated-requires-clause-below_greatest
negated-requires-clause-below_greatest c =
    let trail = c.args.trail.now in
    let limits = only-has (λ (lit : Lit). IsInLimits lit.value) (replayed trail.declared (take c.args.count trail.entries)) c.args.clause.now c.in-Some.lit c.requires.in_limits c.in-Some.ensures in
    omega (arith, ints, limits.0, limits.1)
