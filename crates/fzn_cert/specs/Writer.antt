-- What a contract sees of a certificate's writer, and what a call that fails leaves.
use Rattle.std.specs.Prelude.{ℕ, Bool, List, Option}
use Rattle.std.specs.Io.KnownBytes.{Keeps}
use Rattle.std.specs.Borrow.{GName}
use Rattle.fzn_streams.specs.Output.{AppendsFront}
use Rattle.fzn_cert.specs.declared.step.Step.{Step}
use Rattle.fzn_cert.specs.declared.step.Version.{Version}
use Rattle.fzn_cert.specs.declared.write_fault.WriteFault.{WriteFault}
use Rattle.fzn_cert.specs.declared.write_fault.WriteFault.TheVariants.{Memory, Write, StepTooLong}
use Rattle.fzn_cert.specs.declared.writer.Stage.{Stage}
use Rattle.fzn_cert.specs.declared.writer.StepWriter.{StepWriter}
use Rattle.fzn_cert.specs.Spelling.{HasLineRoom}

-- what the writer below holds
abbrev pub contents_of : {W : Type 0} → (W → Option (List ℕ)) → StepWriter W → Option (List ℕ)
contents_of contents writer = contents writer.out.now

-- which stream the writer below is
abbrev pub stream_of : {W S : Type 0} → (W → S) → StepWriter W → S
stream_of stream writer = stream writer.out.now

-- whether a call on the writer below failed
abbrev pub has_failed_in : {W : Type 0} → (W → Bool) → StepWriter W → Bool
has_failed_in has_failed writer = has_failed writer.out.now

-- by this name a caller knows the writer below
abbrev pub cert_name : {W : Type 0} → StepWriter W → GName
cert_name writer = writer.out.ghost_name

abbrev pub version_of : {W : Type 0} → StepWriter W → Version
version_of writer = writer.version

-- how many steps were written
abbrev pub step_count : {W : Type 0} → StepWriter W → ℕ
step_count writer = writer.steps

abbrev pub stage_of : {W : Type 0} → StepWriter W → Stage
stage_of writer = writer.stage

-- a fault leaves a beginning of the text after a failed write, and else nothing of it
abbrev pub Leaves : List ℕ → Option (List ℕ) → Option (List ℕ) → WriteFault → Type 0
Leaves text old new Write = AppendsFront old new text
Leaves text old new _ = Keeps old new

-- a fault of the first two lines, of the last line or of a flush
abbrev pub IsLineFault : WriteFault → Type 0
IsLineFault Memory = Unit {0}
IsLineFault Write = Unit {0}
IsLineFault _ = ⊥

-- a fault of a step, after this many steps
abbrev pub IsStepFault : ℕ → Step → WriteFault → Type 0
IsStepFault steps step Memory = Unit {0}
IsStepFault steps step Write = Unit {0}
IsStepFault steps step StepTooLong = ¬ HasLineRoom steps step
IsStepFault steps step _ = ⊥
