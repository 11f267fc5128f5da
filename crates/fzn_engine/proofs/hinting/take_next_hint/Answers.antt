-- A hint that is taken passes all cuts.
use Rattle.std.proofs.Common.{◌≡◌, true, ℤ, List, sym, subst, rules}
use Rattle.fzn_meaning.specs.Solutions.{PassesCuts}
use Rattle.fzn_cert.specs.declared.step.Step.{Step}
use Rattle.fzn_cert.specs.Accepted.{past_after}
use Rattle.fzn_clauses.specs.Watching.{held_by}
use Rattle.fzn_engine.specs.Hinted.{AreCutsTrue}
use Rattle.fzn_state.proofs.ForgetLemmas.{nothing-reduced}
use Rattle.fzn_engine.proofs.HintLemmas.{cuts-passed}
use Rattle.fzn_engine.proofs.RunLemmas.{solution-limit}
use Rattle.fzn_engine.proofs.hinting.take_next_hint.Goals as goal

pub write_solution-requires-clause-passes : goal.write_solution-requires-clause-passes
write_solution-requires-clause-passes g c =
    let new : c.is_new.result ≡ true = search rules in
    let same : c.as_slice.result.now ≡ c.in-Some.values = search rules in
    let T : List ℤ → Type 0 = λ v. AreCutsTrue (held_by c.args.solver.now.clauses) c.args.solver.now.cuts v in
    let P : List Step → Type 0 = λ steps. PassesCuts c.args.model.now (past_after c.args.model.now steps).solutions c.in-Some.values in
    subst P (sym c.hint.ensures.taken) (cuts-passed c.requires.ready.state c.in-Some.values (subst T same (c.is_new.ensures.cuts new)))

pub returns-then-is_reached-clause-takes : goal.returns-then-is_reached-clause-takes
returns-then-is_reached-clause-takes g c =
    let w = c.in_ok-write_solution.ensures.written in
    solution-limit c.args.limits c.args.solver.now (nothing-reduced w.state (record c.write_solution.new.solver.notes { hints = c.take_hint.new.self })).state w.tally c.requires.within c.if-is_reached.ensures
