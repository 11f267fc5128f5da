-- What is searched in a model's place has the answers of the model.
use Rattle.std.proofs.Common.{◌≡◌, ℕ, Bool, true, ℤ, List, [], ◌∷◌, ◌++◌, length, Option, Some, None, Result, Ok, Err, IfOk, OnOk, option_map, refl, sym, ap, subst, arith, append_assoc, append-nil, inr}
use Rattle.fzn_meaning.specs.declared.constraint.Constraint.{Constraint}
use Rattle.fzn_meaning.specs.declared.model.Model.{Model}
use Rattle.fzn_meaning.specs.Solutions.{IsProper, IsExhausted}
use Rattle.fzn_meaning.specs.WellFormed.{IsWellFormed}
use Rattle.fzn_cert.specs.declared.step.Step.{Step}
use Rattle.fzn_cert.specs.declared.step.Version.TheVariants.{Two}
use Rattle.fzn_cert.specs.Accepted.{AllAccepted, past_after}
use Rattle.fzn_cert.specs.Past.{no_past}
use Rattle.fzn_cert.specs.Spelling.{counts_text, end_line}
use Rattle.fzn_cert.specs.Verdict.{accepted, lines_of, AllHaveLines, VerdictFrom}
use Rattle.fzn_head.specs.Opening.{IsDerivedOpening}
use Rattle.fzn_head.specs.Outcome.{IsOutcomeOf, early}
use Rattle.fzn_head.proofs.CallerLemmas.{with_constraints, only_constraints, formed-after, opened-outcome, proper-before, exhausted-before}
use Rattle.fzn_printer.specs.declared.printer.Ending.{Ending}
use Rattle.fzn_printer.specs.declared.printer.Ending.TheVariants.{Complete, Unsatisfiable, NodeLimit, SolutionLimit}
use Rattle.fzn_printer.specs.Answer.{answer_text}
use Rattle.fzn_engine.specs.declared.report.Report.{Report}
use Rattle.fzn_solver.specs.Answer.{EndsTruly, IsBounded}
use Rattle.fzn_solver.specs.Opening.{two_lines, IsOpening, derived, plain}
use Rattle.fzn_solver.specs.Standing.{found_by, certificate, shown_all}
use Rattle.fzn_options.specs.declared.solve.Options.{Options}

-- ---- the verdict

-- accepted steps that have lines, and the ending
pub steps-verdict : (model : Model) (steps : List Step) (closed : Bool) → AllAccepted model steps → AllHaveLines Two 0 steps → (closed ≡ true → (past_after model steps).refuted ≡ true)
    → VerdictFrom model Two no_past 0 (Some (lines_of steps ++ end_line closed)) (accepted (found_by model steps) closed)
steps-verdict model steps closed all_accepted have_lines refuted =
    (steps, have_lines, all_accepted, (Some (end_line closed), refl, ((Some [], sym (append-nil (end_line closed)), refl), refuted, refl)))

-- behind the first two lines of version two
plain-outcome : (model : Model) (steps : List Step) (closed : Bool) (found : List (List ℤ)) → IsWellFormed model → VerdictFrom model Two no_past 0 (Some (lines_of steps ++ end_line closed)) (accepted found closed)
    → IsOutcomeOf model (certificate (two_lines model) steps closed) (accepted found closed)
plain-outcome model steps closed found formed verdict =
    let few_vars = formed.few_vars in
    let few_constraints = formed.few_constraints in
    let counts = counts_text (length model.vars) (length model.constraints) in
    early Two (Some (counts ++ 10 ∷ [] ++ lines_of steps ++ end_line closed), simp append_assoc, tt) (inr (
      Two,
      (omega arith, omega arith),
      (Some (lines_of steps ++ end_line closed), append_assoc (two_lines model) (lines_of steps) (end_line closed), verdict),
    ))

-- ---- what is found, and how it ended

ends-other : (model : Model) (constraints : List Constraint) (options : Options) (found : List (List ℤ)) (nodes : ℕ) (ending : Ending) → EndsTruly (with_constraints model constraints) options found nodes ending → EndsTruly model options found nodes ending
ends-other model constraints options found nodes Complete ends = ends
ends-other model constraints options found nodes Unsatisfiable ends = ends
ends-other model constraints options found nodes NodeLimit ends = ends
ends-other model constraints options found nodes SolutionLimit ends = ends

bounded-other : (model : Model) (constraints : List Constraint) (steps : List Step) (options : Options) (report : Report) → IsBounded (with_constraints model constraints) steps options report → IsBounded model steps options report
bounded-other model constraints steps options report bounded = record {
  by_limit = bounded.by_limit;
  by_choices = bounded.by_choices;
  by_conflicts = bounded.by_conflicts;
  fresh = bounded.fresh;
}

module _ (derive : Bool) (model after : Model) (opening : List ℕ) (formed : IsWellFormed model) where
  others : IsOpening derive model after opening → (constraints : List Constraint) × (after ≡ with_constraints model constraints)
  others (derived asked opens) = only_constraints model after opens.read opens.extends
  others (plain same is) = (model.constraints, same)

  pub proper-opened : IsOpening derive model after opening → (found : List (List ℤ)) → IsProper after found → IsProper model found
  proper-opened (derived asked opens) found proper = proper-before model after opens.read formed opens.extends found proper
  proper-opened (plain same is) found proper = subst (λ (m : Model). IsProper m found) same proper

  pub exhausted-opened : IsOpening derive model after opening → (found : List (List ℤ)) → IsExhausted after found → IsExhausted model found
  exhausted-opened (derived asked opens) found exhausted = exhausted-before model after opens.read formed opens.extends found exhausted
  exhausted-opened (plain same is) found exhausted = subst (λ (m : Model). IsExhausted m found) same exhausted

  pub outcome-opened : IsOpening derive model after opening → (steps : List Step) (closed : Bool) (found : List (List ℤ)) → VerdictFrom after Two no_past 0 (Some (lines_of steps ++ end_line closed)) (accepted found closed)
      → IsOutcomeOf model (certificate opening steps closed) (accepted found closed)
  outcome-opened (derived asked opens) steps closed found verdict =
      subst (λ (t : List ℕ). IsOutcomeOf model t (accepted found closed)) (sym (append_assoc opening (lines_of steps) (end_line closed)))
      (opened-outcome model after opening (lines_of steps ++ end_line closed) found closed formed opens verdict)
  outcome-opened (plain same is) steps closed found verdict =
      subst (λ (t : List ℕ). IsOutcomeOf model (certificate t steps closed) (accepted found closed)) (sym is)
      (plain-outcome model steps closed found formed (subst (λ (m : Model). VerdictFrom m Two no_past 0 (Some (lines_of steps ++ end_line closed)) (accepted found closed)) same verdict))

  pub answer-opened : IsOpening derive model after opening → (found : List (List ℤ)) (closed all : Bool) → answer_text after found closed all ≡ answer_text model found closed all
  answer-opened opened found closed all =
      let same = others opened in
      subst (λ (m : Model). answer_text m found closed all ≡ answer_text model found closed all) (sym same.1) refl

  pub shown-opened : IsOpening derive model after opening → (found : List (List ℤ)) → shown_all after found ≡ shown_all model found
  shown-opened opened found =
      let same = others opened in
      subst (λ (m : Model). shown_all m found ≡ shown_all model found) (sym same.1) refl

  pub goal-opened : IsOpening derive model after opening → after.goal ≡ model.goal
  goal-opened opened =
      let same = others opened in
      ap (λ (m : Model). m.goal) same.1

  pub ends-opened : IsOpening derive model after opening → (options : Options) (found : List (List ℤ)) (nodes : ℕ) (ending : Ending) → EndsTruly after options found nodes ending → EndsTruly model options found nodes ending
  ends-opened opened options found nodes ending ends =
      let same = others opened in
      ends-other model same.0 options found nodes ending (subst (λ (m : Model). EndsTruly m options found nodes ending) same.1 ends)

  pub bounded-opened : IsOpening derive model after opening → (steps : List Step) (options : Options) (report : Report) → IsBounded after steps options report → IsBounded model steps options report
  bounded-opened opened steps options report bounded =
      let same = others opened in
      bounded-other model same.0 steps options report (subst (λ (m : Model). IsBounded m steps options report) same.1 bounded)

-- ---- how a model is opened

formed-derived : (model after : Model) (lines : Option (List ℕ)) → IsWellFormed model → IsDerivedOpening model after lines → IsWellFormed after
formed-derived model after None formed same = subst IsWellFormed (sym same) formed
formed-derived model after (Some text) formed opens = formed-after model after opens.read formed opens.room opens.extends

-- with what is derived, if anything is
pub formed-result : {S E : Type 0} (bytes : S → List ℕ) (model after : Model) (result : Result (Option S) E) → IsWellFormed model → IfOk result (λ lines. IsDerivedOpening model after (option_map bytes lines)) → OnOk result (IsWellFormed after)
formed-result bytes model after (Ok lines) formed opened = formed-derived model after (option_map bytes lines) formed opened
formed-result bytes model after (Err fault) formed opened = tt
