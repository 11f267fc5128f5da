-- The learned clause is an accepted step.
use Rattle.std.proofs.Common.{◌≡◌, inr, List, [], length, refl, sym, ap, ◌∙◌, subst, rules}
use Rattle.std.proofs.lemmas.List.{nil_from_length}
use Rattle.fzn_domain.specs.declared.literal.Lit.{Lit}
use Rattle.fzn_state.specs.Changes.{Holds}
use Rattle.fzn_state.proofs.LessonLemmas.{derives-spelled, derives-logged, derives-now, learn-closed}
use Rattle.fzn_state.proofs.SolverLemmas.{closed-from}
use Rattle.fzn_state.proofs.solver.Solver.learn.Goals as goal

pub step-requires-clause-spelled : goal.step-requires-clause-spelled
step-requires-clause-spelled g c = derives-spelled c.in_ok-learned.ensures.learns.derives c.in_ok-resolved.ensures c.requires.ready.good

pub step-requires-clause-accepted : goal.step-requires-clause-accepted
step-requires-clause-accepted g c = derives-logged c.in_ok-learned.ensures.learns.derives c.in_ok-resolved.ensures _ (inr refl)

pub returns-in_err-step-clause-left : goal.returns-in_err-step-clause-left
returns-in_err-step-clause-left g c =
    let accepted = derives-logged c.in_ok-learned.ensures.learns.derives c.in_ok-resolved.ensures (g.S.Sink.written c.step.new.self) c.step.ensures.logged in
    record { accepted = accepted; kept = c.step.ensures.kept; same = c.step.ensures.same ∙ c.analyse.ensures.left.same }

pub returns-then-is_empty-clause-left : goal.returns-then-is_empty-clause-left
returns-then-is_empty-clause-left g c =
    let accepted = derives-logged c.in_ok-learned.ensures.learns.derives c.in_ok-resolved.ensures (g.S.Sink.written c.step.new.self) c.step.ensures.logged in
    record { accepted = accepted; kept = c.step.ensures.kept; same = c.step.ensures.same ∙ c.analyse.ensures.left.same }

pub returns-clause-left : goal.returns-clause-left
returns-clause-left g c =
    let accepted = derives-logged c.in_ok-learned.ensures.learns.derives c.in_ok-resolved.ensures (g.S.Sink.written c.step.new.self) c.step.ensures.logged in
    record { accepted = accepted; kept = c.step.ensures.kept; same = c.step.ensures.same ∙ c.analyse.ensures.left.same }

pub returns-then-is_empty-clause-learned : goal.returns-then-is_empty-clause-learned
returns-then-is_empty-clause-learned g c =
    let clause : c.as_slice.result.now ≡ c.in_ok-learned.learned.clause = search rules in
    let H : List Lit → Type 0 = λ cl. Holds cl c.analyse.new.self c.hold.new.self in
    let none : c.in_ok-learned.learned.clause ≡ [] = nil_from_length c.in_ok-learned.learned.clause (sym c.len-is_empty.ensures ∙ c.if-is_empty.true) in
    closed-from c.in_ok-learned.ensures.written.tally
    (learn-closed c.in_ok-learned.ensures.learns (derives-now c.in_ok-learned.ensures.learns.derives c.in_ok-resolved.ensures c.in_ok-step.ensures.ok) none c.hold.new.self (subst H clause c.in_ok-id.ensures.held))

pub returns-clause-learned : goal.returns-clause-learned
returns-clause-learned g c =
    let clause : c.as_slice.result.now ≡ c.in_ok-learned.learned.clause = search rules in
    let H : List Lit → Type 0 = λ cl. Holds cl c.analyse.new.self c.hold.new.self in
    record {
      mid = c.analyse.new.self;
      before = g.S.Sink.written c.analyse.new.sink;
      learned = c.in_ok-learned.learned;
      numbers = c.in_ok-learned.ids;
      written = c.in_ok-learned.ensures.written;
      learns = c.in_ok-learned.ensures.learns;
      now_is = derives-now c.in_ok-learned.ensures.learns.derives c.in_ok-resolved.ensures c.in_ok-step.ensures.ok;
      few = c.in_ok-step.ensures.few;
      some = λ none. c.if-is_empty.false (c.len-is_empty.ensures ∙ ap length none);
      holds = subst H clause c.in_ok-id.ensures.held;
      newest = c.in_ok-id.ensures.id;
      level = refl;
    }
