-- A decision was open on limited sets, so its number is within the limits.
use Rattle.std.proofs.Common.{arith}
use Rattle.std.proofs.lemmas.Int.{ints}
use Rattle.fzn_learned.proofs.PlainLemmas.{decision_in_limits, negated_decisions-decision, negated_decisions-implied}
use Rattle.fzn_learned.specs.Reasoned.{known_of}
use Rattle.fzn_learned.proofs.plain.plain_clause.Goals as goal
use Rattle.fzn_learned.proofs.plain.plain_clause.Goals.{in-Decision+in_ok-push-in-Decision, in-Implied}

pub negated-requires-clause-above_least : goal.negated-requires-clause-above_least
negated-requires-clause-above_least c =
    let limits = decision_in_limits (known_of c.args.clauses.now c.args.inferences.now) c.args.trail.now c.loop-i.i c.entry-entry.result c.requires.reasoned c.requires.limited c.entry-entry.ensures c.in-Decision.is in
    omega (arith, ints, limits.0, limits.1)

pub negated-requires-clause-below_greatest : goal.negated-requires-clause-below_greatest
negated-requires-clause-below_greatest c =
    let limits = decision_in_limits (known_of c.args.clauses.now c.args.inferences.now) c.args.trail.now c.loop-i.i c.entry-entry.result c.requires.reasoned c.requires.limited c.entry-entry.ensures c.in-Decision.is in
    omega (arith, ints, limits.0, limits.1)

pub loop-i-preserved : goal.loop-i-preserved
loop-i-preserved c =
    let trail = c.args.trail.now in
    let entry = c.entry-entry.result in
    elim c.match-entry.branch [
      | in-Decision+in_ok-push-in-Decision w ↦
          let more = negated_decisions-decision trail.declared trail.entries c.loop-i.i entry c.entry-entry.ensures w.in-Decision.is in
          cc (more, w.clause-is, w.in_ok-push-in-Decision.ensures.ok, w.negated.ensures.value, c.loop-i.invariant)
      | in-Implied w ↦
          let more = negated_decisions-implied trail.declared trail.entries c.loop-i.i entry c.entry-entry.ensures w.in-Implied.field-0 w.in-Implied.is in
          cc (more, w.clause-is, c.loop-i.invariant)
    ]
