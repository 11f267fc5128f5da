-- What the search of a model leaves: a true answer on the output, and its certificate.
use Rattle.std.specs.Prelude.{◌≡◌, ◌≢◌, ℕ, ◌+◌, ◌-◌, ◌*◌, ◌<◌, ◌≤◌, Bool, true, false, ℤ, List, [], length, max, Option, Some, None}
use Rattle.std.specs.Io.KnownBytes.{Appends}
use Rattle.fzn_meaning.specs.declared.model.Model.{Model}
use Rattle.fzn_meaning.specs.Solutions.{declared_sets, IsProper, IsExhausted}
use Rattle.fzn_cert.specs.declared.step.Step.{Step}
use Rattle.fzn_cert.specs.Verdict.{accepted}
use Rattle.fzn_head.specs.Outcome.{IsOutcomeOf}
use Rattle.fzn_printer.specs.declared.printer.Ending.{Ending}
use Rattle.fzn_printer.specs.declared.printer.Ending.TheVariants.{Complete, Unsatisfiable, NodeLimit, SolutionLimit}
use Rattle.fzn_printer.specs.Answer.{answer_text}
use Rattle.fzn_printer.specs.Shown.{is_closed}
use Rattle.fzn_state.specs.Resolved.{resolved, FreshAfter}
use Rattle.fzn_state.specs.Volume.{volume, slack_of_sets}
use Rattle.fzn_engine.specs.Wanted.{HasRoomForMore, IsReached}
use Rattle.fzn_engine.specs.declared.report.Report.{Report}
use Rattle.fzn_solver.specs.Opening.{IsOpening}
use Rattle.fzn_solver.specs.Standing.{found_by, certificate}
use Rattle.fzn_strategy.specs.declared.learn.Learn.TheVariants.{Plain}
use Rattle.fzn_options.specs.declared.solve.Options.{Options}

-- how many solutions are wanted at most, in satisfaction: as many as the limit says, and at least one; else all or one
abbrev pub wanted : Bool → Option ℕ → Option ℕ
wanted all (Some limit) = Some (max limit 1)
wanted true None = None
wanted false None = Some 1

-- Complete after a solution and unsatisfiable without, and neither limit reached; open where as many decisions were made as the node limit
-- says, or where there are as many solutions as are wanted.
abbrev pub EndsTruly : Model → Options → List (List ℤ) → ℕ → Ending → Type 0
EndsTruly model options found nodes Complete = (found ≢ []) × HasRoomForMore model.goal (wanted options.all options.limit) (length found)
EndsTruly model options found nodes Unsatisfiable = found ≡ []
EndsTruly model options found nodes NodeLimit = (nodes ≡ options.nodes) × HasRoomForMore model.goal (wanted options.all options.limit) (length found)
EndsTruly model options found nodes SolutionLimit = IsReached model.goal (wanted options.all options.limit) (length found)

-- This text and these steps are the certificate: it is accepted with these solutions, and what is printed is the answer of the verdict.
pub record IsAnswerCertified (model : Model) (opening : List ℕ) (steps : List Step) (found : List (List ℤ)) (all closed : Bool) (out_old out_new cert_old cert_new : Option (List ℕ)) : Type 0 where
  pub written : Appends cert_old cert_new (certificate opening steps closed)
  pub verdict : IsOutcomeOf model (certificate opening steps closed) (accepted found closed)
  pub printed : Appends out_old out_new (answer_text model found closed all)

-- the decisions are bounded by the node limit, however it ended, and by the conflicts; in plain learning by the choices too, and each
-- learned clause excludes something that those before it leave
pub record IsBounded (model : Model) (steps : List Step) (options : Options) (report : Report) : Type 0 where
  pub by_limit : report.nodes ≤ options.nodes
  pub by_choices : options.learn ≡ Plain → volume (declared_sets model.vars) - 1 ≤ options.nodes → report.ending ≢ NodeLimit
  pub by_conflicts : report.nodes ≤ (length (resolved steps) + 1) * slack_of_sets (declared_sets model.vars)
  pub fresh : options.learn ≡ Plain → 0 < volume (declared_sets model.vars) → FreshAfter (declared_sets model.vars) [] (resolved steps)

-- The steps are those of the model with what was derived, and what they find is the answer of the model itself.
pub record IsAnswer (model : Model) (options : Options) (out_old out_new cert_old cert_new : Option (List ℕ)) (report : Report) : Type 0 where
  pub after : Model
  pub opening : List ℕ
  pub opened : IsOpening options.derive model after opening
  pub steps : List Step
  pub certified : IsAnswerCertified model opening steps (found_by after steps) options.all (is_closed report.ending) out_old out_new cert_old cert_new
  pub proper : IsProper model (found_by after steps)
  pub exhausted : is_closed report.ending ≡ true → IsExhausted model (found_by after steps)
  pub solutions : report.solutions ≡ length (found_by after steps)
  pub ends : EndsTruly model options (found_by after steps) report.nodes report.ending
  pub bounded : IsBounded model steps options report
