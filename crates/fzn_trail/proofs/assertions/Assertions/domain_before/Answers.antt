use Rattle.std.proofs.Common.{◌<◌, length, sym, ap, subst, ◌∙◌}
use Rattle.fzn_trail.specs.Replay.{Past, set_before}
use Rattle.fzn_trail.proofs.AssertionLemmas.{set_at}
use Rattle.fzn_trail.proofs.assertions.Assertions.domain_before.Goals as goal

pub returns : goal.returns
returns c =
    set_at c.self.inside.sets c.self.inside.last.items c.self.inside.assertions.items c.self.invariant c.args.i
    (subst (λ (p : Past). c.args.i < length p.entries) (sym c.self.view_is) c.requires) c.before-2.result.now c.before-2.ensures
    ∙ ap (λ (p : Past). set_before p.declared p.entries c.args.i) c.self.view_is
