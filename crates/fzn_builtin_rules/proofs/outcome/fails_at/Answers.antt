use Rattle.std.proofs.Common.{◌↔◌, IsTrue, List, subst, Some}
use Rattle.fzn_values.specs.declared.term.Term.{Term}
use Rattle.fzn_meaning.specs.Comparisons.{IsSwitched}
use Rattle.fzn_meaning.specs.Booleans.{Passes}
use Rattle.fzn_builtin_rules.specs.Choices.{inputs_of, result_of, Relates, NoneOf}
use Rattle.fzn_builtin_rules.specs.Numbered.{choice_at}
use Rattle.fzn_builtin_rules.proofs.outcome.fails_at.Goals as goal

pub returns-in-Gated : goal.returns-in-Gated
unfolding inputs_of result_of Relates
returns-in-Gated c =
    let sets = c.args.sets.now.present in
    rw c.in-Gated.is
    (subst (λ (inputs : List Term). IsTrue c.gate_fails.result ↔ NoneOf sets (Some c.in-Gated.result) (λ value. IsSwitched value (Passes c.in-Gated.gate (choice_at sets inputs c.args.number)))) c.as_slice-in-Gated.ensures c.gate_fails.ensures)
