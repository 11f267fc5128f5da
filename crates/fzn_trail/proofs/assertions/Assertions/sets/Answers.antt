use Rattle.std.proofs.Common.{ap, ◌∙◌}
use Rattle.fzn_trail.specs.Replay.{Past, replayed}
use Rattle.fzn_trail.proofs.AssertionLemmas.{present-replayed}
use Rattle.fzn_trail.proofs.assertions.Assertions.sets.Goals as goal

pub returns-clause-present : goal.returns-clause-present
returns-clause-present c =
    present-replayed c.self.inside.sets c.self.inside.last.items c.self.inside.assertions.items c.self.invariant
    ∙ ap (λ (p : Past). replayed p.declared p.entries) c.self.view_is
