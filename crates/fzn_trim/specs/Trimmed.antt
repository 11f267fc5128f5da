-- What trimming a certificate answers.
use Rattle.std.specs.Prelude.{◌≡◌, ◌⊎◌, ℕ, ◌≤◌, Bool, true, ℤ, List, length, Option, Some, IfSome, Err}
use Rattle.std.specs.Io.KnownBytes.{Appends, Keeps}
use Rattle.fzn_streams.specs.Output.{AppendsFront}
use Rattle.fzn_lexer.specs.declared.halt.Halt.TheVariants as errors
use Rattle.fzn_meaning.specs.declared.model.Model.{Model}
use Rattle.fzn_reading.specs.Reads.{Reads, States}
use Rattle.fzn_cert.specs.declared.step.Step.{Step}
use Rattle.fzn_cert.specs.declared.step.Version.{Version}
use Rattle.fzn_cert.specs.declared.step.Version.TheVariants.{Two}
use Rattle.fzn_cert.specs.Verdict.{accepted, refused}
use Rattle.fzn_head.specs.Outcome.{IsOutcomeOn, IsOutcomeOf}
use Rattle.fzn_checker.specs.declared.fault.CheckFault.{CheckFault}
use Rattle.fzn_checker.specs.declared.fault.CheckFault.TheVariants.{File, Refused, NotVersionOne, Memory, Read, WriteOutput, WriteCert}
use Rattle.fzn_checker.specs.Answered.{Shows}
use Rattle.fzn_checker.specs.Held.{IsCertificate}
use Rattle.fzn_trim.specs.declared.trimming.Trimmed.{Trimmed}

-- The file states a model, and the old certificate is accepted for it. The new bytes are a certificate that is accepted with the same
-- solutions and the same ending, and they have no more steps. Their steps are of version 2, behind a head that derives no more constraints
-- where it derives any.
pub record Trims (file cert : Option (List ℕ)) (bytes : List ℕ) (trimmed : Trimmed) : Type 0 where
  pub model : Model
  pub found : List (List ℤ)
  pub closed : Bool
  pub shows : Shows file cert model found closed
  pub verdict : IsOutcomeOf model bytes (accepted found closed)
  -- the model with the constraints that the old certificate's head derives, and with those that the new one's derives, which are no more
  pub after : Model
  pub left : Model
  pub few : length left.constraints ≤ length after.constraints
  -- the steps of the old certificate, and those of the new one
  pub version : Version
  pub steps : List Step
  pub old : IsCertificate model after version cert steps closed
  pub kept : List Step
  pub new : IsCertificate model left Two (Some bytes) kept closed
  pub fewer : length kept ≤ length steps
  pub counts : (trimmed.steps ≡ length steps) × (trimmed.kept ≡ length kept)

-- such bytes are written, whole
abbrev pub IsTrimmed : Option (List ℕ) → Option (List ℕ) → Option (List ℕ) → Option (List ℕ) → Trimmed → Type 0
IsTrimmed file cert before after trimmed = (bytes : List ℕ) × Trims file cert bytes trimmed × Appends before after bytes

-- a beginning of such bytes is written
abbrev pub IsTrimBegun : Option (List ℕ) → Option (List ℕ) → Option (List ℕ) → Option (List ℕ) → Type 0
IsTrimBegun file cert before after = (trimmed : Trimmed) × (bytes : List ℕ) × Trims file cert bytes trimmed × AppendsFront before after bytes

-- The file's first fault, or the first faulty line of the certificate; nothing is written then. After a failed write a beginning of the
-- new bytes stands, and after want of memory one may stand.
abbrev pub IsTrimFault : Option (List ℕ) → Option (List ℕ) → Option (List ℕ) → Option (List ℕ) → CheckFault → Type 0
IsTrimFault file cert before after (File fault) = Keeps before after × IfSome file (λ bytes. Reads bytes (Err (errors.Fault fault)))
IsTrimFault file cert before after (Refused line refusal) = Keeps before after × ((model : Model) × States file model × IsOutcomeOn model cert (refused line refusal))
IsTrimFault file cert before after Memory = Keeps before after ⊎ IsTrimBegun file cert before after
IsTrimFault file cert before after Read = Keeps before after
IsTrimFault file cert before after WriteCert = IsTrimBegun file cert before after
IsTrimFault file cert before after NotVersionOne = ⊥
IsTrimFault file cert before after WriteOutput = ⊥

-- A failed read is answered only where one of the file or of the certificate failed, and a failed write only where one of the new
-- certificate failed, or its flush.
pub record IsTrimDue (file cert new : Bool) (fault : CheckFault) : Type 0 where
  pub read : fault ≡ Read → (file ≡ true) ⊎ (cert ≡ true)
  pub write : fault ≡ WriteCert → new ≡ true
