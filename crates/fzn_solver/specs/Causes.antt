-- What each fault of a run comes of: a failed call on a stream, or a step whose line would be too long.
use Rattle.std.specs.Prelude.{◌≡◌, ℕ, Bool, true, List, [], ◌∷◌, ◌++◌, length, Option, None, IfSome}
use Rattle.fzn_meaning.specs.declared.model.Model.{Model}
use Rattle.fzn_cert.specs.declared.step.Step.{Step}
use Rattle.fzn_cert.specs.declared.writer.Stage.TheVariants.{Open}
use Rattle.fzn_cert.specs.declared.writer.StepWriter.{StepWriter}
use Rattle.fzn_cert.specs.Accepted.{AllAccepted}
use Rattle.fzn_cert.specs.Spelling.{HasLineRoom}
use Rattle.fzn_cert.specs.Writer.{stage_of, stream_of as cert_stream, has_failed_in as cert_failed}
use Rattle.fzn_state.specs.declared.fault.Fault.{Fault}
use Rattle.fzn_state.specs.declared.fault.Fault.TheVariants as engine
use Rattle.fzn_printer.specs.Printer.{is_open, out_stream, out_failed}
use Rattle.fzn_solver.specs.declared.fault.RunFault.{RunFault}
use Rattle.fzn_solver.specs.declared.fault.RunFault.TheVariants.{WriteOutput, WriteCert, StepTooLong}
use Rattle.fzn_solver.specs.declared.writers.Writers.{Writers}
use Rattle.fzn_solver.specs.Left.{HasLines}
use Rattle.fzn_solver.specs.Opening.{IsOpening}
use Rattle.fzn_solver.specs.Writers.{taken, at_first}

-- these steps may be followed by one whose line would pass its limit, of length or of step number
pub record IsTooLong (model : Model) (steps : List Step) : Type 0 where
  pub step : Step
  pub accepted : AllAccepted model (steps ++ step ∷ [])
  pub long : ¬ HasLineRoom (length steps) step

-- A fault that came once the model was read: a write or a flush of the output failed, one of the certificate did, or the line of a step
-- that follows those on the certificate would be too long.
unfoldable pub HasCause : Bool → Bool → Bool → Model → Option (List ℕ) → Option (List ℕ) → RunFault → Type 0
HasCause out cert derive model cert_old cert_new WriteOutput = out ≡ true
HasCause out cert derive model cert_old cert_new WriteCert = cert ≡ true
HasCause out cert derive model cert_old cert_new StepTooLong =
    (after : Model) × (opening : List ℕ) × IsOpening derive model after opening
    × (steps : List Step) × HasLines opening steps cert_old cert_new × IsTooLong after steps
HasCause out cert derive model cert_old cert_new _ = Unit {0}

-- ---- on the way

abbrev pub IsCause : {W C P : Type 0} → (W → Bool) → (C → Bool) → Model → Writers W C P → Fault → Type 0
IsCause outs certs model now engine.Memory = Unit {0}
IsCause outs certs model now engine.WriteOutput = out_failed outs now.out ≡ true
IsCause outs certs model now engine.WriteCert = cert_failed certs now.cert ≡ true
IsCause outs certs model now engine.StepTooLong = IsTooLong model (taken now)

-- of the line of one step, after this many
abbrev pub IsLineCause : {C : Type 0} → (C → Bool) → Step → ℕ → StepWriter C → Fault → Type 0
IsLineCause certs step count cert engine.Memory = Unit {0}
IsLineCause certs step count cert engine.WriteOutput = ⊥
IsLineCause certs step count cert engine.WriteCert = cert_failed certs cert ≡ true
IsLineCause certs step count cert engine.StepTooLong = ¬ HasLineRoom count step

-- both writers can go on
abbrev pub AreWritersOpen : {W C P : Type 0} → Writers W C P → Type 0
AreWritersOpen now = (stage_of now.cert ≡ Open) × (is_open now.out ≡ true)

-- both writers can go on, unless a fault stopped them, which has its cause
pub record IsUnderWay {W C P : Type 0} (outs : W → Bool) (certs : C → Bool) (model : Model) (now : Writers W C P) : Type 0 where
  pub goes_on : now.stopped ≡ None → AreWritersOpen now
  pub cause : IfSome now.stopped (IsCause outs certs model now)

-- both write to the same streams
abbrev pub AreSameStreams : {W C P S T : Type 0} → (W → S) → (C → T) → Writers W C P → Writers W C P → Type 0
AreSameStreams outs certs old new = (out_stream outs new.out ≡ out_stream outs old.out) × (cert_stream certs new.cert ≡ cert_stream certs old.cert)

-- both write to the streams on which they began
abbrev pub AreStreamsAsAtFirst : {W C P S T : Type 0} → (W → S) → (C → T) → Writers W C P → Type 0
AreStreamsAsAtFirst outs certs now = (out_stream outs now.out ≡ outs (at_first now).0) × (cert_stream certs now.cert ≡ certs (at_first now).1)
