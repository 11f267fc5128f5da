-- From a position before on.
use Rattle.std.proofs.Common.{ℕ, List, sym, ap, take, ◌∙◌}
use Rattle.std.proofs.lemmas.List.{take_min}
use Rattle.fzn_lexer.specs.Positions.{position_after}
use Rattle.fzn_lexer.proofs.PositionLemmas.{walked}
use Rattle.fzn_lexer.proofs.positions.Positions.of.Goals as goal

pub invariant_of-self : goal.invariant_of-self
invariant_of-self c =
    let bytes = c.self.inside.bytes.now in
    let known = c.known_before-known.result in
    let position = c.known_before-known.ensures.position ∙ ap (λ (z : List ℕ). position_after (take known.index z)) (sym c.self.view_is) in
    (c.self.invariant.0, walked bytes known.index c.min-index.result known.position c.behind-position.result c.known_before-known.ensures.before position c.behind-position.ensures)

pub returns-clause-position : goal.returns-clause-position
returns-clause-position c =
    let bytes = c.self.inside.bytes.now in
    let known = c.known_before-known.result in
    let position = c.known_before-known.ensures.position ∙ ap (λ (z : List ℕ). position_after (take known.index z)) (sym c.self.view_is) in
    let here = walked bytes known.index c.min-index.result known.position c.behind-position.result c.known_before-known.ensures.before position c.behind-position.ensures in
    here ∙ ap position_after (ap (λ (n : ℕ). take n bytes) c.min-index.ensures ∙ (take_min c.args.index bytes ∙ ap (take c.args.index) c.self.view_is))
