use Rattle.std.proofs.Common.{◌≡◌, ◌∙◌, sym, ap, subst, List, length, None, get_or}
use Rattle.fzn_meaning.specs.declared.row.Part.{Part}
use Rattle.fzn_meaning.specs.declared.constraint.Constraint.TheVariants as constraint
use Rattle.fzn_meaning.specs.Separable.{IsPart}
use Rattle.fzn_rules.specs.Separable.{IsLeastWeight}
use Rattle.fzn_separable.proofs.RowLemmas.{barred_justified}
use Rattle.fzn_separable.proofs.search.find_barred.Goals as goal
use Rattle.fzn_separable.proofs.search.find_barred.Goals.{After-index-as_slice-k}

here : (c : After-index-as_slice-k) → get_or c.args.pass.now.row.now.parts c.args.k c.index-as_slice-k.result ≡ c.index-as_slice-k.result
here c = sym (c.index-as_slice-k.is ∙ ap (λ (ps : List Part). get_or ps c.args.k c.index-as_slice-k.result) c.as_slice.ensures)

pub explain_part-requires-clause-part : goal.explain_part-requires-clause-part
explain_part-requires-clause-part c = subst (IsPart (length c.args.pass.now.trail.now.declared)) (here (goal.at.explain_part-requires-clause-part c).After-index-as_slice-k) (c.args.pass.now.ready.parts c.args.k c.index-as_slice-k.result c.requires.inside)

pub explain_part-requires-clause-present : goal.explain_part-requires-clause-present
explain_part-requires-clause-present c =
    let part = c.index-as_slice-k.result in
    subst (λ (p : Part). IsLeastWeight c.args.pass.now.trail.now.sets p None) (here (goal.at.explain_part-requires-clause-present c).After-index-as_slice-k) (c.requires.barred part)

pub returns-clause-found : goal.returns-clause-found
returns-clause-found c =
    let trail = c.args.pass.now.trail.now in
    let row = c.args.pass.now.row.now in
    c.hand_over.ensures.found trail (constraint.Row row)
    (barred_justified trail row c.args.pass.now.ready c.args.k c.index-as_slice-k.result _ c.explain_part.new.clause c.requires.inside (here (goal.at.returns-clause-found c).After-index-as_slice-k) c.in_ok-explain_part.ensures)
    c.requires.before
