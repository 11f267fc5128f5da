-- The clause is an accepted step, and nothing else changes.
use Rattle.std.proofs.Common.{◌≡◌, ℕ, inr, List, Option, IfSome, refl, ap, ◌∙◌, subst, rules}
use Rattle.fzn_domain.specs.declared.literal.Lit.{Lit}
use Rattle.fzn_strategy.specs.declared.learn.Learn.TheVariants.{First}
use Rattle.fzn_learned.specs.declared.learned.Learned.{Learned}
use Rattle.fzn_state.specs.Antecedents.{Derives}
use Rattle.fzn_state.specs.Changes.{HoldsNext}
use Rattle.fzn_state.specs.Search.{Tally}
use Rattle.fzn_state.proofs.LessonLemmas.{derives-accepted, derives-spelled, derives-logged, derives-now}
use Rattle.fzn_state.proofs.UnitLemmas.{room-before, unit-reduced}
use Rattle.fzn_state.proofs.solver.Solver.prove_unit.Goals as goal

pub step-requires-clause-spelled : goal.step-requires-clause-spelled
step-requires-clause-spelled g c =
    let D : Option (Learned × List ℕ) → Type 0 = λ found. IfSome found (λ derived. Derives c.args.model.now c.derive_unit.new.self (g.S.Sink.written c.derive_unit.new.sink) derived.0 derived.1) in
    derives-spelled (subst D c.in-Some.is c.in_ok-found.ensures.derives) c.in_ok-resolved.ensures c.requires.ready.good

pub step-requires-clause-accepted : goal.step-requires-clause-accepted
step-requires-clause-accepted g c =
    let D : Option (Learned × List ℕ) → Type 0 = λ found. IfSome found (λ derived. Derives c.args.model.now c.derive_unit.new.self (g.S.Sink.written c.derive_unit.new.sink) derived.0 derived.1) in
    derives-logged (subst D c.in-Some.is c.in_ok-found.ensures.derives) c.in_ok-resolved.ensures _ (inr refl)

pub returns-in_err-step-clause-left : goal.returns-in_err-step-clause-left
returns-in_err-step-clause-left g c =
    let D : Option (Learned × List ℕ) → Type 0 = λ found. IfSome found (λ derived. Derives c.args.model.now c.derive_unit.new.self (g.S.Sink.written c.derive_unit.new.sink) derived.0 derived.1) in
    let accepted = derives-logged (subst D c.in-Some.is c.in_ok-found.ensures.derives) c.in_ok-resolved.ensures (g.S.Sink.written c.step.new.self) c.step.ensures.logged in
    record { accepted = accepted; kept = c.step.ensures.kept; same = c.step.ensures.same ∙ c.derive_unit.ensures.left.same }

pub returns-clause-left : goal.returns-clause-left
returns-clause-left g c =
    let D : Option (Learned × List ℕ) → Type 0 = λ found. IfSome found (λ derived. Derives c.args.model.now c.derive_unit.new.self (g.S.Sink.written c.derive_unit.new.sink) derived.0 derived.1) in
    let accepted = derives-logged (subst D c.in-Some.is c.in_ok-found.ensures.derives) c.in_ok-resolved.ensures (g.S.Sink.written c.step.new.self) c.step.ensures.logged in
    record { accepted = accepted; kept = c.step.ensures.kept; same = c.step.ensures.same ∙ c.derive_unit.ensures.left.same }

pub returns-clause-reduced : goal.returns-clause-reduced
returns-clause-reduced g c =
    let D : Option (Learned × List ℕ) → Type 0 = λ found. IfSome found (λ derived. Derives c.args.model.now c.derive_unit.new.self (g.S.Sink.written c.derive_unit.new.sink) derived.0 derived.1) in
    let w = c.in_ok-found.ensures.written in
    let d : Derives c.args.model.now c.derive_unit.new.self (g.S.Sink.written c.derive_unit.new.sink) c.in-Some.derived.0 c.in-Some.derived.1 = subst D c.in-Some.is c.in_ok-found.ensures.derives in
    let clause : c.as_slice.result.now ≡ c.in-Some.derived.0.clause = search rules in
    let first : c.derive_unit.new.self.learn ≡ First = ap (λ (t : Tally). t.learn) w.tally ∙ c.requires.first in
    let H : List Lit → Type 0 = λ cl. HoldsNext c.args.model.now cl (g.S.Sink.written c.derive_unit.new.sink) c.derive_unit.new.self c.hold_unit.new.self in
    let holds = subst H clause (c.in_ok-id.ensures.reduced c.args.model.now (g.S.Sink.written c.derive_unit.new.sink)) in
    let now_is = derives-now d c.in_ok-resolved.ensures c.in_ok-step.ensures.ok in
    let room = room-before (g.S.Sink.written c.derive_unit.new.sink) (g.S.Sink.written c.step.new.self) _ now_is c.in_ok-step.ensures.few in
    unit-reduced c.in-Some.derived.0.clause c.in-Some.derived.1 w now_is (holds c.in-Some.derived.1 first d.state (derives-accepted d) room) _
