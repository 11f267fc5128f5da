-- A literal that splits is of one of the variables.
use Rattle.std.proofs.Common.{◌≡◌, ℕ, length, ap, subst, sym, ◌∙◌}
use Rattle.fzn_domain.specs.Narrow.{IsVariable}
use Rattle.fzn_trail.specs.Levels.{Levels}
use Rattle.fzn_engine.proofs.moves.decide.Goals as goal

pub assert-requires : goal.assert-requires
assert-requires c =
    let V : ℕ → Type 0 = λ n. IsVariable n c.in-Some.lit.var in
    let same : length c.push_level.new.self.declared ≡ length c.args.solver.now.trail.sets = ap (λ (t : Levels). length t.declared) c.in_ok-push_level.ensures.ok ∙ sym c.requires.one_each in
    subst V (sym same) c.in-Some.ensures.found.variable
