use Rattle.std.proofs.Common.{rules, ◌≡◌, ap, ◌∙◌, length}
use Rattle.std.proofs.lemmas.Result.{on_ok_weaker}
use Rattle.fzn_trail.specs.Levels.{Levels, asserted}
use Rattle.fzn_trail.specs.Replay.{Past}
use Rattle.fzn_trail.specs.Inside.{levels}
use Rattle.fzn_trail.proofs.TrailLemmas.{asserted_is}
use Rattle.fzn_trail.proofs.trail.Trail.assert.Goals as goal

pub returns-clause-ok : goal.returns-clause-ok
returns-clause-ok c =
    let inside = c.self.inside in
    let level : c.len.result ≡ length inside.saved.items = search rules in
    on_ok_weaker c.assert.result
    (λ is.
    ap (λ (p : Past). levels p.declared p.entries inside.saved.items inside.mark) is
    ∙ asserted_is inside.assertions.declared inside.assertions.entries inside.saved.items inside.mark c.len.result c.args.lit c.args.reason c.self.invariant.counts level
    ∙ ap (λ (t : Levels). asserted c.args.lit c.args.reason t) c.self.view_is)
    c.assert.ensures.ok
