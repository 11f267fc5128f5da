use Rattle.std.proofs.Common.{length, ap, ◌∙◌}
use Rattle.fzn_sets.specs.Sets.{Narrowed}
use Rattle.fzn_sets.proofs.SetsLemmas.{length-present}
use Rattle.fzn_sets.proofs.sets.Sets.len.Goals as goal

pub returns-clause-declared : goal.returns-clause-declared
returns-clause-declared c =
    (c.len.ensures ∙ c.self.inside.present.ok.0)
    ∙ length-present c.self.inside.declared.items c.self.inside.present.items c.self.inside.narrowings.items c.self.invariant
    ∙ ap (λ (s : Narrowed). length s.declared) c.self.view_is
