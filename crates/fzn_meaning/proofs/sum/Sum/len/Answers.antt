use Rattle.std.proofs.Common.{ℕ, length, ap, ap₂, sym, ◌∙◌}
use Rattle.std.specs.Prelude.{min}
use Rattle.fzn_meaning.proofs.WeightedLemmas.{length-weighted}
use Rattle.fzn_meaning.proofs.sum.Sum.len.Goals as goal

-- the shorter of the two lists
pub returns : goal.returns
returns c =
    c.min.ensures ∙ ap₂ (λ (a b : ℕ). min a b) c.len.ensures c.len-2.ensures
    ∙ sym (length-weighted c.self.inside.numbers c.self.inside.terms) ∙ ap length c.self.view_is
