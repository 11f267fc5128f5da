-- What printing an answer with its bound answers.
use Rattle.std.specs.Prelude.{◌≡◌, ℕ, Bool, ℤ, List, ◌++◌, Option, IfSome, Err}
use Rattle.std.specs.List.{fold}
use Rattle.std.specs.Io.KnownBytes.{Appends, Keeps}
use Rattle.fzn_streams.specs.Output.{AppendsFront}
use Rattle.fzn_lexer.specs.declared.halt.Halt.TheVariants as errors
use Rattle.fzn_meaning.specs.declared.model.Model.{Model}
use Rattle.fzn_printer.specs.Answer.{answer_text}
use Rattle.fzn_reading.specs.Reads.{Reads, States}
use Rattle.fzn_cert.specs.declared.step.Step.{Step}
use Rattle.fzn_cert.specs.declared.step.Version.{Version}
use Rattle.fzn_cert.specs.Verdict.{MayEnd, refused}
use Rattle.fzn_cert_reader.specs.Reader.{Progress}
use Rattle.fzn_head.specs.Extended.{IsExtended}
use Rattle.fzn_head.specs.Outcome.{IsOutcomeOn}
use Rattle.fzn_checker.specs.declared.fault.CheckFault.{CheckFault}
use Rattle.fzn_checker.specs.declared.fault.CheckFault.TheVariants.{File, Refused, NotVersionOne, Memory, Read, WriteOutput, WriteCert}
use Rattle.fzn_checker.specs.Answered.{Shows}
use Rattle.fzn_checker.specs.Held.{past_in, HasTaken, AreLinesLeft, IsCertificate}
use Rattle.fzn_bound.specs.declared.certificate.Walked.{Walked}
use Rattle.fzn_bound.specs.declared.known.Known.{Known}
use Rattle.fzn_bound.specs.Known.{IsStrong, IsTrueOf}
use Rattle.fzn_bound.specs.Line.{bound_line}
use Rattle.fzn_bound.specs.Said.{bound_after, IsBestDeclared}

-- The file states a model, and the certificate has these steps and is accepted for it. What is known is true of the model, and has the
-- strongest bound that the steps give. The text is that of the answer, and the line.
pub record TellsBound (file cert : Option (List ℕ)) (all : Bool) (text : List ℕ) (known : Known) : Type 0 where
  pub model : Model
  pub found : List (List ℤ)
  pub closed : Bool
  pub shows : Shows file cert model found closed
  -- the model with the constraints that the certificate's head derives, and its steps
  pub after : Model
  pub version : Version
  pub steps : List Step
  pub certificate : IsCertificate model after version cert steps closed
  pub holds : IsTrueOf model found closed known
  pub strong : IsStrong model steps known
  pub is : text ≡ answer_text model found closed all ++ bound_line model known

-- such a text is printed, whole
abbrev pub IsBoundTold : Option (List ℕ) → Option (List ℕ) → Bool → Option (List ℕ) → Option (List ℕ) → Known → Type 0
IsBoundTold file cert all before after known = (text : List ℕ) × TellsBound file cert all text known × Appends before after text

-- The file's first fault, or the first faulty line of the certificate; nothing is printed then. After a failed write a beginning of such a
-- text stands.
abbrev pub IsBoundFault : Option (List ℕ) → Option (List ℕ) → Bool → Option (List ℕ) → Option (List ℕ) → CheckFault → Type 0
IsBoundFault file cert all before after (File fault) = Keeps before after × IfSome file (λ bytes. Reads bytes (Err (errors.Fault fault)))
IsBoundFault file cert all before after (Refused line refusal) = Keeps before after × ((model : Model) × States file model × IsOutcomeOn model cert (refused line refusal))
IsBoundFault file cert all before after Memory = Keeps before after
IsBoundFault file cert all before after Read = Keeps before after
IsBoundFault file cert all before after WriteOutput = (known : Known) × (text : List ℕ) × TellsBound file cert all text known × AppendsFront before after text
IsBoundFault file cert all before after NotVersionOne = ⊥
IsBoundFault file cert all before after WriteCert = ⊥

-- ---- the steps

-- the strongest bound that the declared set and these steps give
pub record IsBoundBy (model : Model) (steps : List Step) (bound : Option ℤ) : Type 0 where
  pub first : Option ℤ
  pub end : IsBestDeclared model.goal model.vars first
  pub is : bound ≡ fold (bound_after model.goal) first steps

-- the lines of these accepted steps were left, and they were taken
pub record IsWalked (model : Model) (now : Progress) (walked : Walked) : Type 0 where
  pub steps : List Step
  pub lines : AreLinesLeft now steps walked.closed
  pub taken : HasTaken model steps walked.taken
  pub may_end : MayEnd (past_in walked.taken) walked.closed
  pub bound : IsBoundBy model steps walked.bound

-- what was left was a certificate, by whose head the model is the second one, and its steps are accepted for that
pub record IsCertificateWalked (model after : Model) (left : Option (List ℕ)) (walked : Walked) : Type 0 where
  pub version : Version
  pub steps : List Step
  pub certificate : IsCertificate model after version left steps walked.closed
  pub extended : IsExtended model after
  pub taken : HasTaken after steps walked.taken
  pub may_end : MayEnd (past_in walked.taken) walked.closed
  pub bound : IsBoundBy after steps walked.bound
