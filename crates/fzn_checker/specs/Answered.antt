-- What checking the bytes of a file and those of a certificate answers.
use Rattle.std.specs.Prelude.{◌≡◌, ◌⊎◌, ℕ, Bool, true, ℤ, List, length, Option, IfSome, Err}
use Rattle.std.specs.Io.KnownBytes.{Appends, Keeps}
use Rattle.fzn_streams.specs.Output.{AppendsFront}
use Rattle.fzn_lexer.specs.declared.halt.Halt.TheVariants as errors
use Rattle.fzn_meaning.specs.declared.model.Model.{Model}
use Rattle.fzn_meaning.specs.Solutions.{IsProper, IsExhausted}
use Rattle.fzn_printer.specs.Answer.{answer_text}
use Rattle.fzn_reading.specs.Reads.{Reads, States}
use Rattle.fzn_cert.specs.Verdict.{accepted, refused}
use Rattle.fzn_head.specs.Outcome.{IsOutcomeOn}
use Rattle.fzn_checker.specs.declared.certificate.Verdict.{Verdict}
use Rattle.fzn_checker.specs.declared.fault.CheckFault.{CheckFault}
use Rattle.fzn_checker.specs.declared.fault.CheckFault.TheVariants.{File, Refused, NotVersionOne, Memory, Read, WriteOutput, WriteCert}

-- The file states this model, the certificate is accepted for it with this answer, and the answer is true: the solutions
-- are a proper list, and an exhausted one where it is closed.
pub record Shows (file cert : Option (List ℕ)) (model : Model) (found : List (List ℤ)) (closed : Bool) : Type 0 where
  pub states : States file model
  pub verdict : IsOutcomeOn model cert (accepted found closed)
  pub proper : IsProper model found
  pub exhausted : closed ≡ true → IsExhausted model found

-- such an answer is printed, whole
pub record IsAnswered (file cert : Option (List ℕ)) (all : Bool) (old new : Option (List ℕ)) (verdict : Verdict) : Type 0 where
  pub model : Model
  pub found : List (List ℤ)
  pub shows : Shows file cert model found verdict.closed
  pub count : verdict.solutions ≡ length found
  pub printed : Appends old new (answer_text model found verdict.closed all)

-- The file's first fault, or the first faulty line of the certificate; nothing is printed then. After a failed write a
-- beginning of a true answer stands.
abbrev pub IsCheckFault : Option (List ℕ) → Option (List ℕ) → Bool → Option (List ℕ) → Option (List ℕ) → CheckFault → Type 0
IsCheckFault file cert all old new (File fault) = Keeps old new × IfSome file (λ bytes. Reads bytes (Err (errors.Fault fault)))
IsCheckFault file cert all old new (Refused line refusal) = Keeps old new × ((model : Model) × States file model × IsOutcomeOn model cert (refused line refusal))
IsCheckFault file cert all old new Memory = Keeps old new
IsCheckFault file cert all old new Read = Keeps old new
IsCheckFault file cert all old new NotVersionOne = ⊥
IsCheckFault file cert all old new WriteCert = ⊥
IsCheckFault file cert all old new WriteOutput =
    (model : Model) × (found : List (List ℤ)) × (closed : Bool) × Shows file cert model found closed × AppendsFront old new (answer_text model found closed all)

-- A failed read is answered only where one of the file or of the certificate failed, and a failed write only where one of the
-- answer failed, or its flush.
pub record IsCheckDue (file cert out : Bool) (fault : CheckFault) : Type 0 where
  pub read : fault ≡ Read → (file ≡ true) ⊎ (cert ≡ true)
  pub write : fault ≡ WriteOutput → out ≡ true
