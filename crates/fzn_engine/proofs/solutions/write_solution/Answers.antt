-- The solution is an accepted step, and its cut is held.
use Rattle.std.proofs.Common.{◌≡◌, ℤ, List, length, All, inr, refl, sym, ap, ◌∙◌, subst, rules}
use Rattle.fzn_domain.specs.declared.literal.Lit.{Lit}
use Rattle.fzn_domain.specs.Limits.{IsInLimits}
use Rattle.fzn_meaning.specs.Solutions.{cut_of}
use Rattle.fzn_state.specs.Changes.{Holds}
use Rattle.fzn_engine.proofs.RunLemmas.{written-limits, written-spelled, written-logged, written}
use Rattle.fzn_engine.proofs.solutions.write_solution.Goals as goal

pub cut-requires-clause-goal : goal.cut-requires-clause-goal
cut-requires-clause-goal g c = c.requires.ready.good.goal

pub cut-requires-clause-outputs : goal.cut-requires-clause-outputs
cut-requires-clause-outputs g c = c.requires.ready.good.outputs

pub cut-requires-clause-length : goal.cut-requires-clause-length
cut-requires-clause-length g c =
    let same : c.as_slice.result.now ≡ c.args.values = search rules in
    ap length same ∙ c.requires.solution.0.one_each

pub cut-requires-clause-limits : goal.cut-requires-clause-limits
cut-requires-clause-limits g c =
    let same : c.as_slice.result.now ≡ c.args.values = search rules in
    let P : List ℤ → Type 0 = λ v. All IsInLimits v in
    subst P (sym same) (written-limits c.requires.ready.good c.requires.ready.state (c.requires.solution, c.requires.passes))

pub step-requires-clause-spelled : goal.step-requires-clause-spelled
step-requires-clause-spelled g c = written-spelled c.requires.ready.good c.requires.ready.state (c.requires.solution, c.requires.passes)

pub step-requires-clause-accepted : goal.step-requires-clause-accepted
step-requires-clause-accepted g c = written-logged c.requires.ready.good c.requires.ready.state (c.requires.solution, c.requires.passes) _ (inr refl)

pub returns-in_err-step-clause-left : goal.returns-in_err-step-clause-left
returns-in_err-step-clause-left g c =
    let accepted = written-logged c.requires.ready.good c.requires.ready.state (c.requires.solution, c.requires.passes) (g.S.Sink.written c.step.new.self) c.step.ensures.logged in
    record { accepted = accepted; kept = c.step.ensures.kept; same = c.step.ensures.same }

pub returns-clause-left : goal.returns-clause-left
returns-clause-left g c =
    let accepted = written-logged c.requires.ready.good c.requires.ready.state (c.requires.solution, c.requires.passes) (g.S.Sink.written c.step.new.self) c.step.ensures.logged in
    record { accepted = accepted; kept = c.step.ensures.kept; same = c.step.ensures.same }

pub returns-clause-written : goal.returns-clause-written
returns-clause-written g c =
    let values : c.as_slice.result.now ≡ c.args.values = search rules in
    let clause : c.as_slice-2.result.now ≡ c.in_ok-clause.clause = search rules in
    let same : c.as_slice-2.result.now ≡ cut_of c.args.model.now c.args.values = clause ∙ c.in_ok-clause.ensures ∙ ap (cut_of c.args.model.now) values in
    let H : List Lit → Type 0 = λ cl. Holds cl c.args.solver.now c.hold.new.self in
    let e = c.in_ok-id.ensures in
    written c.requires.ready.good c.requires.ready.state (c.requires.solution, c.requires.passes)
    (g.S.Sink.written c.step.new.self) c.in_ok-step.ensures.ok c.in_ok-step.ensures.few c.in_ok-id.id e.id c.hold.new.self (subst H same e.held) c.add.new.self c.in_ok-add.ensures.added c.add.ensures.others
