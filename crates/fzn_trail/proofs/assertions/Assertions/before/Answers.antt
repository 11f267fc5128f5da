use Rattle.std.proofs.Common.{◌<◌, length, take, sym, subst}
use Rattle.fzn_trail.specs.Replay.{Past, variable_at}
use Rattle.fzn_trail.specs.Inside.{IsLastPlace}
use Rattle.fzn_trail.proofs.AssertionLemmas.{place_at, found_place, no_place}
use Rattle.fzn_trail.proofs.assertions.Assertions.before.Goals as goal
use Rattle.fzn_trail.proofs.assertions.Assertions.before.Goals.{After-result-1}

place : (c : After-result-1) → IsLastPlace (take c.args.i c.args.self.now.entries) (variable_at c.args.self.now.entries c.args.i) c.index.result.now.before
place c =
    subst (λ (p : Past). IsLastPlace (take c.args.i p.entries) (variable_at p.entries c.args.i) c.index.result.now.before) c.self.view_is
    (place_at c.self.inside.assertions.items c.self.invariant.all_assertions c.args.i c.index.result.now
    (subst (λ (p : Past). c.args.i < length p.entries) (sym c.self.view_is) c.requires) c.index.ensures)

pub returns-clause-found : goal.returns-clause-found
returns-clause-found c = found_place (take c.args.i c.args.self.now.entries) (variable_at c.args.self.now.entries c.args.i) c.index.result.now.before (place c)

pub returns-clause-none : goal.returns-clause-none
returns-clause-none c = no_place (take c.args.i c.args.self.now.entries) (variable_at c.args.self.now.entries c.args.i) c.index.result.now.before (place c)
