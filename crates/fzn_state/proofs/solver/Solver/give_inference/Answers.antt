-- What is found among the written clauses is that of the inference.
use Rattle.std.proofs.Common.{ℕ, Option, IfSome, ap, ◌∙◌, subst}
use Rattle.fzn_propagator.specs.declared.inferences.Inferred.{Inferred}
use Rattle.fzn_reduction.specs.Written.{IsGivenAt}
use Rattle.fzn_state.proofs.solver.Solver.give_inference.Goals as goal

pub give_again-requires-clause-given : goal.give_again-requires-clause-given
give_again-requires-clause-given g c =
    let clause = c.as_slice.ensures ∙ ap (λ (it : Inferred). it.inference.clause) c.get.ensures in
    let F : Option ℕ → Type 0 = λ found. IfSome found (λ place. IsGivenAt c.args.self.now.written place c.as_slice.result.now) in
    let there = subst F c.in-Some.is c.find.ensures in
    (there.0, there.1 ∙ clause)
