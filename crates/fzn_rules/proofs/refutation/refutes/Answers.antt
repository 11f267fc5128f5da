use Rattle.fzn_rules.proofs.RuleSound.{rule_sound}
use Rattle.fzn_rules.proofs.refutation.refutes.Goals as goal

pub returns-clause-sound : goal.returns-clause-sound
returns-clause-sound c =
    λ yes values within bits met. rule_sound c.args.constraint.now c.args.sets.now.present c.args.rule.now values c.requires.constraint (c.is_met.ensures.0 yes) within bits met
