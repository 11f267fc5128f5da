use Rattle.std.proofs.Common.{length, List, ap, subst, ◌∙◌}
use Rattle.fzn_domain.specs.IntSet.{IntSet}
use Rattle.fzn_domain.specs.Narrow.{is_some_empty}
use Rattle.fzn_sets.proofs.CallerLemmas.{none_empty}
use Rattle.fzn_trail.specs.Levels.{Levels, IsNarrower}
use Rattle.fzn_trail.proofs.AssertionLemmas.{length-replayed}
use Rattle.fzn_trail.proofs.TrailLemmas.{IsNarrower-replayed}
use Rattle.fzn_trail.proofs.trail.Trail.sets.Goals as goal

pub returns-clause-one_each : goal.returns-clause-one_each
returns-clause-one_each c =
    ap (λ (sets : List IntSet). length sets) c.sets.ensures.present
    ∙ length-replayed c.self.inside.assertions.declared c.self.inside.assertions.entries
    ∙ ap (λ (t : Levels). length t.declared) c.self.view_is

pub returns-clause-narrower : goal.returns-clause-narrower
returns-clause-narrower c =
    subst (λ (t : Levels). IsNarrower t.sets t.declared) c.self.view_is
    (IsNarrower-replayed c.self.inside.assertions.declared c.self.inside.assertions.entries c.self.invariant.variables)

pub returns-clause-filled : goal.returns-clause-filled
returns-clause-filled c filled =
    ap is_some_empty (c.sets.ensures.present ∙ ap (λ (t : Levels). t.sets) c.self.view_is) ∙ none_empty c.args.self.now.sets filled
