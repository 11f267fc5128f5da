use Rattle.std.proofs.Common.{length}
use Rattle.fzn_builtin_rules.specs.Numbered.{choice_at}
use Rattle.fzn_builtin_rules.proofs.ChosenLemmas.{length-choice_at}
use Rattle.fzn_builtin_rules.proofs.OutcomeLemmas.{and_test, or_test}
use Rattle.fzn_builtin_rules.proofs.outcome.passes.Goals as goal

pub returns-in-And : goal.returns-in-And
returns-in-And c =
    rw c.in-And.is (and_test (choice_at c.args.sets.now.present c.args.inputs.now c.args.number) c.count_value-ones.result (length c.args.inputs.now) c.count_value-ones.ensures (length-choice_at c.args.sets.now.present c.args.inputs.now c.args.number))

pub returns-in-Or : goal.returns-in-Or
returns-in-Or c = rw c.in-Or.is (or_test (choice_at c.args.sets.now.present c.args.inputs.now c.args.number) c.count_value-ones.result c.count_value-ones.ensures)
