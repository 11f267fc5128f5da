use Rattle.std.proofs.Common.{arith, ◌≡◌, ◌∙◌, get_or}
use Rattle.fzn_meaning.specs.declared.row.Part.{Part}
use Rattle.fzn_separable.proofs.TotalLemmas.{part_at}
use Rattle.fzn_separable.proofs.values.find_values.Goals as goal
use Rattle.fzn_separable.proofs.values.find_values.Goals.{After-index-as_slice-k}

at : (c : After-index-as_slice-k) → (default : Part) → get_or c.args.pass.now.row.now.parts c.args.k default ≡ c.index-as_slice-k.result
at c =
    let one_each = c.requires.leasts.one_each in
    let below = c.requires.inside in
    part_at c.args.pass.now.row.now.parts c.as_slice.result.now c.args.k c.index-as_slice-k.result (omega arith) c.as_slice.ensures c.index-as_slice-k.is

pub find_end-requires-clause-at : goal.find_end-requires-clause-at
find_end-requires-clause-at c = λ default. at (goal.at.find_end-requires-clause-at c).After-index-as_slice-k default ∙ c.in-Variable.is

pub find_before-requires-clause-at : goal.find_before-requires-clause-at
find_before-requires-clause-at c = λ default. at (goal.at.find_before-requires-clause-at c).After-index-as_slice-k default ∙ c.in-Variable.is

pub find_listed-requires-clause-at : goal.find_listed-requires-clause-at
find_listed-requires-clause-at c = λ default. at (goal.at.find_listed-requires-clause-at c).After-index-as_slice-k default ∙ c.in-Variable.is

pub find_behind-requires-clause-at : goal.find_behind-requires-clause-at
find_behind-requires-clause-at c = λ default. at (goal.at.find_behind-requires-clause-at c).After-index-as_slice-k default ∙ c.in-Variable.is
