-- What a run leaves, from the bytes of a file.
use Rattle.std.specs.Prelude.{◌≡◌, ◌⊎◌, ℕ, Bool, true, List, Option, IfSome, Err}
use Rattle.std.specs.Io.KnownBytes.{Keeps}
use Rattle.fzn_engine.specs.declared.report.Report.{Report}
use Rattle.fzn_lexer.specs.declared.halt.Halt.TheVariants as errors
use Rattle.fzn_meaning.specs.declared.model.Model.{Model}
use Rattle.fzn_reading.specs.Reads.{Reads, States}
use Rattle.fzn_solver.specs.declared.fault.RunFault.{RunFault}
use Rattle.fzn_solver.specs.declared.fault.RunFault.TheVariants.{File, Memory, Read}
use Rattle.fzn_solver.specs.Answer.{IsAnswer}
use Rattle.fzn_solver.specs.Causes.{HasCause}
use Rattle.fzn_solver.specs.Left.{IsLeftByRun}
use Rattle.fzn_options.specs.declared.solve.Options.{Options}

-- the file states a model, and its answer and certificate stand
pub record IsRun (file : Option (List ℕ)) (options : Options) (out_old out_new cert_old cert_new : Option (List ℕ)) (report : Report) : Type 0 where
  pub model : Model
  pub states : States file model
  pub answer : IsAnswer model options out_old out_new cert_old cert_new report

-- a fault that came once the model was read
abbrev pub IsLeftOf : Option (List ℕ) → Options → Option (List ℕ) → Option (List ℕ) → Option (List ℕ) → Option (List ℕ) → RunFault → Type 0
IsLeftOf file options out_old out_new cert_old cert_new fault = (model : Model) × States file model × IsLeftByRun model options out_old out_new cert_old cert_new fault

-- The file's first fault, and that of a failed read, leave both writers as they were.
unfoldable pub IsRunFault : Option (List ℕ) → Options → Option (List ℕ) → Option (List ℕ) → Option (List ℕ) → Option (List ℕ) → RunFault → Type 0
IsRunFault file options out_old out_new cert_old cert_new (File fault) = Keeps out_old out_new × Keeps cert_old cert_new × IfSome file (λ bytes. Reads bytes (Err (errors.Fault fault)))
IsRunFault file options out_old out_new cert_old cert_new Read = Keeps out_old out_new × Keeps cert_old cert_new
IsRunFault file options out_old out_new cert_old cert_new Memory = (Keeps out_old out_new × Keeps cert_old cert_new) ⊎ IsLeftOf file options out_old out_new cert_old cert_new Memory
IsRunFault file options out_old out_new cert_old cert_new fault = IsLeftOf file options out_old out_new cert_old cert_new fault

-- Each fault has its cause: a failed read, a failed write or flush of the output or of the certificate, a line that would be too long.
unfoldable pub IsDue : Bool → Bool → Bool → Bool → Option (List ℕ) → Option (List ℕ) → Option (List ℕ) → RunFault → Type 0
IsDue read out cert derive file cert_old cert_new (File fault) = Unit {0}
IsDue read out cert derive file cert_old cert_new Memory = Unit {0}
IsDue read out cert derive file cert_old cert_new Read = read ≡ true
IsDue read out cert derive file cert_old cert_new fault = (model : Model) × States file model × HasCause out cert derive model cert_old cert_new fault
