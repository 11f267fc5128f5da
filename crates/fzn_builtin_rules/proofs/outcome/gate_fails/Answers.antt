use Rattle.fzn_meaning.specs.Booleans.{Passes}
use Rattle.fzn_builtin_rules.specs.Numbered.{choice_at}
use Rattle.fzn_builtin_rules.proofs.OutcomeLemmas.{switched_by}
use Rattle.fzn_builtin_rules.proofs.outcome.gate_fails.Goals as goal

pub returns : goal.returns
returns c =
    switched_by c.args.sets.now.present c.args.of c.result_fails.result c.passes.result (Passes c.args.gate (choice_at c.args.sets.now.present c.args.inputs.now c.args.number)) c.passes.ensures c.result_fails.ensures
