use Rattle.std.proofs.Common.{◌≡◌, ◌*◌, Some, sym, ap, ◌∙◌}
use Rattle.fzn_names.specs.Annotations.{index_range}
use Rattle.fzn_names.specs.Capped.{capped}
use Rattle.fzn_names.proofs.SizeLemmas.{grown-more}
use Rattle.fzn_names.proofs.annotation.grown.Goals as goal

-- one more factor
pub returns-in-Some-clause-value : goal.returns-in-Some-clause-value
returns-in-Some-clause-value c = λ more.
    let is : index_range c.args.term.now ≡ Some c.in-Some.range = sym c.range_of.ensures ∙ c.in-Some.is in
    grown-more c.args.size c.capped.result c.args.term.now c.in-Some.range more is (c.capped.ensures.value ∙ ap (λ w. capped (c.args.size * w)) c.width.ensures)
