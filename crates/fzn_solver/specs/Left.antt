-- What a run leaves after a fault that comes once the model was read.
use Rattle.std.specs.Prelude.{◌≡◌, ◌⊎◌, ℕ, Bool, true, List, [], ◌++◌, Option}
use Rattle.std.specs.Io.KnownBytes.{Appends}
use Rattle.fzn_streams.specs.Output.{AppendsFront}
use Rattle.fzn_meaning.specs.declared.model.Model.{Model}
use Rattle.fzn_meaning.specs.Solutions.{IsProper, IsExhausted}
use Rattle.fzn_cert.specs.declared.step.Step.{Step}
use Rattle.fzn_cert.specs.Verdict.{accepted}
use Rattle.fzn_head.specs.Outcome.{IsOutcomeOf}
use Rattle.fzn_printer.specs.Answer.{answer_text}
use Rattle.fzn_solver.specs.declared.fault.RunFault.{RunFault}
use Rattle.fzn_solver.specs.declared.fault.RunFault.TheVariants.{Memory, WriteOutput, WriteCert, StepTooLong}
use Rattle.fzn_options.specs.declared.solve.Options.{Options}
use Rattle.fzn_solver.specs.Opening.{IsOpening}
use Rattle.fzn_solver.specs.Standing.{found_by, is_alone, early, begun_certificate, certificate, shown_all}

-- the lines of the steps stand whole, and perhaps a beginning of another text; or no step does, and a beginning of the text in front
abbrev pub HasLines : List ℕ → List Step → Option (List ℕ) → Option (List ℕ) → Type 0
HasLines opening steps cert_old cert_new =
    ((steps ≡ []) × AppendsFront cert_old cert_new opening)
    ⊎ ((more : List ℕ) × Appends cert_old cert_new (begun_certificate opening steps ++ more))

-- The run stopped on the way: its steps show a proper list, and a beginning of the text of these solutions stands on the output, nothing
-- in an optimisation that shows the last alone.
pub record IsStopped (model : Model) (options : Options) (out_old out_new cert_old cert_new : Option (List ℕ)) : Type 0 where
  pub after : Model
  pub opening : List ℕ
  pub opened : IsOpening options.derive model after opening
  pub steps : List Step
  pub proper : IsProper model (found_by after steps)
  pub lines : HasLines opening steps cert_old cert_new
  pub shown : AppendsFront out_old out_new (shown_all model (early (is_alone model.goal options.all) (found_by after steps)))

-- the whole certificate stands, which is accepted, and a beginning of its true answer
pub record IsInterrupted (model : Model) (options : Options) (out_old out_new cert_old cert_new : Option (List ℕ)) : Type 0 where
  pub after : Model
  pub opening : List ℕ
  pub opened : IsOpening options.derive model after opening
  pub steps : List Step
  pub closed : Bool
  pub written : Appends cert_old cert_new (certificate opening steps closed)
  pub verdict : IsOutcomeOf model (certificate opening steps closed) (accepted (found_by after steps) closed)
  pub proper : IsProper model (found_by after steps)
  pub exhausted : closed ≡ true → IsExhausted model (found_by after steps)
  pub shown : AppendsFront out_old out_new (answer_text model (found_by after steps) closed options.all)

-- the faults that come once the model was read
abbrev pub IsLater : RunFault → Type 0
IsLater Memory = Unit {0}
IsLater WriteOutput = Unit {0}
IsLater WriteCert = Unit {0}
IsLater StepTooLong = Unit {0}
IsLater _ = ⊥

-- the end of the certificate stands only where the output failed behind it
abbrev pub IsLeftByRun : Model → Options → Option (List ℕ) → Option (List ℕ) → Option (List ℕ) → Option (List ℕ) → RunFault → Type 0
IsLeftByRun model options out_old out_new cert_old cert_new fault =
    IsLater fault × (IsStopped model options out_old out_new cert_old cert_new ⊎ ((fault ≡ WriteOutput) × IsInterrupted model options out_old out_new cert_old cert_new))
