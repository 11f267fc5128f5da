-- The step gives the clause of the one, which is that of the other.
use Rattle.std.proofs.Common.{List, Some, sym, ap, ◌∙◌, subst}
use Rattle.fzn_cert.specs.Past.{clause_held}
use Rattle.fzn_cert.specs.Accepted.{past_after}
use Rattle.fzn_propagator.specs.declared.inferences.Inferred.{Inferred}
use Rattle.fzn_reduction.specs.declared.written.Given.{Given}
use Rattle.fzn_state.specs.Antecedents.{AreInferencesWritten}
use Rattle.fzn_state.proofs.ForgetLemmas.{written-given}
use Rattle.fzn_state.proofs.WrittenLemmas.{infer-given}
use Rattle.fzn_state.proofs.solver.Solver.give_again.Goals as goal

pub returns-clause-number : goal.returns-clause-number
returns-clause-number c model steps h =
    ap (λ (g : Given). clause_held (past_after model steps) g.number) c.get.ensures ∙ written-given h c.args.known c.requires.given.0 ∙ ap Some c.requires.given.1

pub returns-clause-written : goal.returns-clause-written
returns-clause-written c model steps h =
    let old = c.args.self.now in
    let gives = ap (λ (g : Given). clause_held (past_after model steps) g.number) c.get.ensures ∙ written-given h c.args.known c.requires.given.0 ∙ ap Some c.requires.given.1 in
    let W : List Inferred → Type 0 = λ stack. AreInferencesWritten model steps c.args.self.now (record c.args.self.now { inferences = stack; notes = record c.args.self.now.notes { cited = c.cite.new.self } }) steps in
    subst W (sym c.set_number.ensures) (infer-given h c.args.place c.requires.stacked c.get.result.now.number gives (record c.args.self.now.notes { cited = c.cite.new.self }))
