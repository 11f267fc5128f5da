-- What the search of a model leaves, said of each model in whose place it may be that this one is searched.
use Rattle.std.specs.Prelude.{ℕ, Bool, List, Option}
use Rattle.fzn_meaning.specs.declared.model.Model.{Model}
use Rattle.fzn_meaning.specs.WellFormed.{IsWellFormed}
use Rattle.fzn_engine.specs.declared.report.Report.{Report}
use Rattle.fzn_options.specs.declared.solve.Options.{Options}
use Rattle.fzn_solver.specs.declared.fault.RunFault.{RunFault}
use Rattle.fzn_solver.specs.Answer.{IsAnswer}
use Rattle.fzn_solver.specs.Causes.{HasCause}
use Rattle.fzn_solver.specs.Left.{IsLeftByRun}
use Rattle.fzn_solver.specs.Opening.{IsOpening}

-- an answer of the model
unfoldable pub IsAnswerOfEach : Options → Model → List ℕ → Option (List ℕ) → Option (List ℕ) → Option (List ℕ) → Option (List ℕ) → Report → Type 0
IsAnswerOfEach options after opening out_old out_new cert_old cert_new report =
    (model : Model) → IsWellFormed model → IsOpening options.derive model after opening → IsAnswer model options out_old out_new cert_old cert_new report

-- what stands after a fault
unfoldable pub IsLeftOfEach : Options → Model → List ℕ → Option (List ℕ) → Option (List ℕ) → Option (List ℕ) → Option (List ℕ) → RunFault → Type 0
IsLeftOfEach options after opening out_old out_new cert_old cert_new fault =
    (model : Model) → IsWellFormed model → IsOpening options.derive model after opening → IsLeftByRun model options out_old out_new cert_old cert_new fault

-- and its cause
unfoldable pub HasCauseOfEach : Bool → Bool → Options → Model → List ℕ → Option (List ℕ) → Option (List ℕ) → RunFault → Type 0
HasCauseOfEach out cert options after opening cert_old cert_new fault =
    (model : Model) → IsWellFormed model → IsOpening options.derive model after opening → HasCause out cert options.derive model cert_old cert_new fault
