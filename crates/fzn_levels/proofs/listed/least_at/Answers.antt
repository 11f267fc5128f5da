use Rattle.std.proofs.Common.{◌∙◌, sym, ap, subst, List, get_or}
use Rattle.std.proofs.lemmas.List.{get_or_default}
use Rattle.fzn_domain.specs.IntSet.{IntSet}
use Rattle.fzn_meaning.specs.declared.row.Part.{Part}
use Rattle.fzn_rules.specs.Separable.{IsLeastOf, IsVariableWeightIn, IsLeastWeight}
use Rattle.fzn_levels.proofs.listed.least_at.Goals as goal

pub returns-clause-least : goal.returns-clause-least
returns-clause-least c = λ default.
    let parts = c.args.pass.now.row.now.parts in
    let part = c.index-as_slice-k.result in
    let k = c.args.k in
    let here = c.index-as_slice-k.is ∙ ap (λ (ps : List Part). get_or ps c.args.k c.index-as_slice-k.result) c.as_slice.ensures in
    subst (λ (p : Part). IsLeastWeight c.args.pass.now.trail.now.sets p c.least.result) (sym (get_or_default parts k default part c.requires ∙ sym here ∙ c.in-Variable.is))
    (subst (λ (set : IntSet). IsLeastOf (IsVariableWeightIn set c.in-Variable.own) c.least.result) c.domain.ensures.value c.least.ensures.least)
