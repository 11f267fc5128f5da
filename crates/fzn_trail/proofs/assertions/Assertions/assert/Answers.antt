use Rattle.std.proofs.Common.{arith, ◌≡◌, ◌-◌, ◌<◌, ℕ, Some, List, length, set, sym, subst, IsTrue, ◌↔◌}
use Rattle.std.proofs.lemmas.Grind.{common_steps}
use Rattle.fzn_domain.specs.IntSet.{IntSet, size}
use Rattle.fzn_domain.specs.Narrow.{IsVariable, set_of}
use Rattle.fzn_sets.specs.Sets.{Narrowed}
use Rattle.fzn_trail.specs.declared.assertions.Assertion.{Assertion}
use Rattle.fzn_trail.specs.Replay.{Past}
use Rattle.fzn_trail.specs.Inside.{AreAssertions}
use Rattle.fzn_trail.proofs.AssertionLemmas.{length-present, present-replayed, AreAssertions-push}
use Rattle.fzn_trail.proofs.assertions.Assertions.assert.Goals as goal

pub narrow-requires : goal.narrow-requires
narrow-requires c =
    let var : IsVariable (length c.self.inside.sets.declared) c.args.entry.lit.var = subst (λ (p : Past). IsVariable (length p.declared) c.args.entry.lit.var) (sym c.self.view_is) c.requires in
    subst (λ (n : ℕ). IsVariable n c.args.entry.lit.var) (sym (length-present c.self.inside.sets c.self.inside.last.items c.self.inside.assertions.items c.self.invariant)) var

pub invariant_of-self-in-Ok : goal.invariant_of-self-in-Ok
invariant_of-self-in-Ok c =
    let inside = c.self.inside in
    let var : IsVariable (length inside.sets.declared) c.args.entry.lit.var = subst (λ (p : Past). IsVariable (length p.declared) c.args.entry.lit.var) (sym c.self.view_is) c.requires in
    let count : c.len-place.result ≡ length inside.assertions.items = omega arith in
    AreAssertions-push inside.sets inside.last.items inside.assertions.items c.self.invariant c.args.entry c.index.result.now c.narrow.new.self c.len-place.result c.push.new.self.items
    var c.index.ensures c.in-Ok.ensures.ok count c.in_ok-push.ensures.items

pub invariant_of-self-in-Err : goal.invariant_of-self-in-Err
invariant_of-self-in-Err c =
    let assertions : c.pop.new.self.items ≡ c.self.inside.assertions.items = grind (arith, common_steps) in
    subst (λ (s : List Assertion). AreAssertions c.narrow.new.self c.self.inside.last.items s) (sym assertions)
    (subst (λ (n : Narrowed). AreAssertions n c.self.inside.last.items c.self.inside.assertions.items) (sym c.in-Err.ensures.err) c.self.invariant)

pub returns-in-Ok-clause-left : goal.returns-in-Ok-clause-left
returns-in-Ok-clause-left c =
    subst (λ (sets : List IntSet). IsTrue c.in-Ok.left ↔ (0 < size (set_of sets c.args.entry.lit.var)))
    (present-replayed c.narrow.new.self (set c.self.inside.last.items (c.args.entry.lit.var.0 - 1) (Some c.len-place.result)) c.push.new.self.items (invariant_of-self-in-Ok c))
    c.in-Ok.ensures.left
