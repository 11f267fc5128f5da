-- One model and one verdict for the run and the check.
use Rattle.std.proofs.Common.{◌≡◌, ◌≢◌, ℕ, ◌++◌, Bool, true, false, [], ℤ, List, length, Some, Result, Ok, Err, MatchResult, refl, sym, ap, subst, ◌∙◌}
use Rattle.std.proofs.lemmas.List.{append_cancel_left}
use Rattle.fzn_cert.specs.Verdict.{Outcome, accepted, refused}
use Rattle.fzn_checker.specs.declared.certificate.Verdict.{Verdict}
use Rattle.fzn_checker.specs.declared.fault.CheckFault.{CheckFault}
use Rattle.fzn_checker.specs.declared.fault.CheckFault.TheVariants.{File, Refused, NotVersionOne, Memory, Read, WriteOutput, WriteCert}
use Rattle.fzn_engine.specs.declared.report.Report.{Report}
use Rattle.fzn_head.specs.Outcome.{IsOutcomeOf}
use Rattle.fzn_lexer.specs.declared.fault.Fault.{Fault}
use Rattle.fzn_lexer.specs.declared.halt.Halt.{Halt}
use Rattle.fzn_lexer.specs.declared.halt.Halt.TheVariants as errors
use Rattle.fzn_meaning.specs.declared.model.Model.{Model}
use Rattle.fzn_printer.specs.Answer.{answer_text}
use Rattle.fzn_printer.specs.Shown.{is_closed}
use Rattle.fzn_reading.specs.Reads.{Reads}
use Rattle.fzn_solver.specs.Standing.{found_by, certificate}
use Rattle.fzn_options.specs.declared.solve.Options.{Options}
use Rattle.fzn_headline.specs.Headline.{RanWell, Check, Checked, Agrees, IsFromOutside}

-- what was read, and another model after a fault
abbrev model_of : Result Model (Halt Fault) → Model → Model
model_of (Ok model) other = model
model_of (Err fault) other = other

abbrev is_ok : Result Model (Halt Fault) → Bool
is_ok (Ok model) = true
is_ok (Err fault) = false

-- the solutions, and whether there are no others, of one outcome
abbrev solutions : Outcome → List (List ℤ)
solutions (accepted found closed) = found
solutions (refused line refusal) = []

abbrev is_accepted : Outcome → Bool
is_accepted (accepted found closed) = true
is_accepted (refused line refusal) = false

abbrev pub call_of : Bool → Bool → Bool → List ℕ → Result Verdict CheckFault → Check
call_of file_failed cert_failed out_failed printed result =
    record { file_failed = file_failed; cert_failed = cert_failed; out_failed = out_failed; printed = printed; result = result }

true_false : true ≡ false → ⊥
true_false h = cc

abbrev closing : Outcome → Bool
closing (accepted found closed) = closed
closing (refused line refusal) = false

module _ (one_model : (bytes : List ℕ) (x y : Result Model (Halt Fault)) → Reads bytes x → Reads bytes y → x ≢ Err errors.Memory → y ≢ Err errors.Memory → x ≡ y)
    (one_outcome : (model : Model) (bytes : List ℕ) (x y : Outcome) → IsOutcomeOf model bytes x → IsOutcomeOf model bytes y → x ≡ y) where
  model-same : (file : List ℕ) (a b : Model) → Reads file (Ok a) → Reads file (Ok b) → a ≡ b
  model-same file a b p q = ap (λ (r : Result Model (Halt Fault)). model_of r a) (one_model file (Ok a) (Ok b) p q (λ e. cc) (λ e. cc))

  pub agrees : (file printed bytes : List ℕ) (options : Options) (report : Report) (file_failed cert_failed out_failed : Bool) (again : List ℕ) (result : Result Verdict CheckFault)
      → RanWell file options printed bytes report → Checked file bytes options.all (call_of file_failed cert_failed out_failed again result)
      → MatchResult result (Agrees printed report again) (IsFromOutside (call_of file_failed cert_failed out_failed again result))
  agrees file printed bytes options report file_failed cert_failed out_failed again (Ok v) (out, cert, ran) (to, answered, _, _) =
      let model = ran.model in
      let certified = ran.answer.certified in
      let steps = ran.answer.steps in
      let opening = ran.answer.opening in
      let found_there = found_by ran.answer.after steps in
      let same = model-same file answered.model model answered.shows.states ran.states in
      let text : bytes ≡ certificate opening steps (is_closed report.ending) = append_cancel_left cert bytes (certificate opening steps (is_closed report.ending)) certified.written in
      let here = subst (λ (t : List ℕ). IsOutcomeOf model t (accepted found_there (is_closed report.ending))) (sym text) certified.verdict in
      let there = subst (λ (m : Model). IsOutcomeOf m bytes (accepted answered.found v.closed)) same answered.shows.verdict in
      let outcome = one_outcome model bytes (accepted answered.found v.closed) (accepted found_there (is_closed report.ending)) there here in
      let found = ap solutions outcome in
      let closed = ap closing outcome in (
        answered.count ∙ ap length found ∙ sym ran.answer.solutions,
        closed,
        append_cancel_left to again printed (answered.printed ∙ ap (λ (t : List ℕ). to ++ t) (rw (same, found, closed) (sym (append_cancel_left out printed (answer_text model found_there (is_closed report.ending) options.all) certified.printed)))),
      )
  agrees file printed bytes options report file_failed cert_failed out_failed again (Err (File fault)) (out, cert, ran) (to, _, wrong, _) =
      absurd (true_false (ap is_ok (one_model file (Ok ran.model) (Err (errors.Fault fault)) ran.states wrong.1 (λ e. cc) (λ e. cc))))
  agrees file printed bytes options report file_failed cert_failed out_failed again (Err (Refused line refusal)) (out, cert, ran) (to, _, wrong, _) =
      let model = ran.model in
      let certified = ran.answer.certified in
      let steps = ran.answer.steps in
      let opening = ran.answer.opening in
      let found_there = found_by ran.answer.after steps in
      let same = model-same file wrong.1.0 model wrong.1.1 ran.states in
      let text : bytes ≡ certificate opening steps (is_closed report.ending) = append_cancel_left cert bytes (certificate opening steps (is_closed report.ending)) certified.written in
      let here = subst (λ (t : List ℕ). IsOutcomeOf model t (accepted found_there (is_closed report.ending))) (sym text) certified.verdict in
      let there = subst (λ (m : Model). IsOutcomeOf m bytes (refused line refusal)) same wrong.1.2 in
      absurd (true_false (ap is_accepted (one_outcome model bytes (accepted found_there (is_closed report.ending)) (refused line refusal) here there)))
  agrees file printed bytes options report file_failed cert_failed out_failed again (Err NotVersionOne) ran (to, _, wrong, _) = absurd wrong
  agrees file printed bytes options report file_failed cert_failed out_failed again (Err Memory) ran checked = tt
  agrees file printed bytes options report file_failed cert_failed out_failed again (Err Read) ran (to, _, _, due) = due.read refl
  agrees file printed bytes options report file_failed cert_failed out_failed again (Err WriteOutput) ran (to, _, _, due) = due.write refl
  agrees file printed bytes options report file_failed cert_failed out_failed again (Err WriteCert) ran (to, _, wrong, _) = absurd wrong
