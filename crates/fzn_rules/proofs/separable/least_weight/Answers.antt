use Rattle.std.proofs.Common.{sym, subst}
use Rattle.fzn_domain.specs.IntSet.{IntSet}
use Rattle.fzn_meaning.specs.declared.row.Part.{Part}
use Rattle.fzn_rules.specs.Separable.{IsLeastOf, IsVariableWeightIn, IsLeastWeight}
use Rattle.fzn_rules.proofs.separable.least_weight.Goals as goal

pub returns-in-Variable-clause-least : goal.returns-in-Variable-clause-least
returns-in-Variable-clause-least c =
    let least = c.least_at_values.result in
    let there = subst (λ (set : IntSet). IsLeastOf (IsVariableWeightIn set c.in-Variable.part) least) c.domain.ensures c.least_at_values.ensures.least in
    subst (λ (part : Part). IsLeastWeight c.args.sets.now.present part least) (sym c.in-Variable.is) there

pub returns-in-Table-clause-least : goal.returns-in-Table-clause-least
returns-in-Table-clause-least c =
    subst (λ (part : Part). IsLeastWeight c.args.sets.now.present part c.least_at_rows.result) (sym c.in-Table.is) c.least_at_rows.ensures.least
