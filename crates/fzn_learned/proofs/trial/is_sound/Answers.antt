use Rattle.fzn_learned.specs.Reasoned.{known_of}
use Rattle.fzn_learned.proofs.TrialLemmas.{Leads-variables}
use Rattle.fzn_learned.proofs.trial.is_sound.Goals as goal

pub forces_at-requires-clause-variables : goal.forces_at-requires-clause-variables
forces_at-requires-clause-variables c =
    let trail = c.args.trail.now in
    Leads-variables (known_of c.args.clauses.now c.args.inferences.now) trail.entries trail.declared trail.sets c.requires.reasoned.leads
