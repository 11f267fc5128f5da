-- What the entries read so far follow from.
use Rattle.fzn_learned.proofs.PlainLemmas.{antecedents_of-decision, antecedents_of-implied}
use Rattle.fzn_learned.proofs.plain.plain_antecedents.Goals as goal
use Rattle.fzn_learned.proofs.plain.plain_antecedents.Goals.{in-Decision, in-Implied+in_ok-push-in-Implied}

pub loop-place-preserved : goal.loop-place-preserved
loop-place-preserved c =
    let trail = c.args.trail.now in
    let entry = c.entry-reason.result in
    elim c.match-reason.branch [
      | in-Decision w ↦
          let more = antecedents_of-decision trail.declared trail.entries c.loop-place.place entry c.entry-reason.ensures w.in-Decision.is in
          cc (more, w.antecedents-is, c.loop-place.invariant)
      | in-Implied+in_ok-push-in-Implied w ↦
          let more = antecedents_of-implied trail.declared trail.entries c.loop-place.place entry c.entry-reason.ensures w.in-Implied.antecedent w.in-Implied.is in
          cc (more, w.antecedents-is, w.in_ok-push-in-Implied.ensures.ok, c.loop-place.invariant)
    ]
