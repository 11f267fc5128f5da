-- What listing a core prints and answers.
use Rattle.std.specs.Prelude.{◌≡◌, ◌-◌, ℕ, Bool, true, false, ℤ, List, [], ◌∷◌, ◌++◌, length, Option, Some, None, IfSome, Err, codes, slice_get, slice_range}
use Rattle.std.specs.List.{flat_map}
use Rattle.std.specs.Fmt.{decimal}
use Rattle.std.specs.Io.KnownBytes.{Appends, Keeps}
use Rattle.fzn_streams.specs.Output.{AppendsFront}
use Rattle.fzn_lexer.specs.declared.halt.Halt.TheVariants as errors
use Rattle.fzn_lexer.specs.declared.token.Position.{Position}
use Rattle.fzn_lexer.specs.declared.token.Span.{Span}
use Rattle.fzn_meaning.specs.declared.model.Model.{Model}
use Rattle.fzn_reading.specs.Reads.{Reads, States}
use Rattle.fzn_derive.specs.declared.derivation.Derivation.{Derivation}
use Rattle.fzn_cert.specs.declared.step.Step.{Step}
use Rattle.fzn_cert.specs.declared.step.Version.{Version}
use Rattle.fzn_cert.specs.Verdict.{refused}
use Rattle.fzn_head.specs.Outcome.{IsOutcomeOn}
use Rattle.fzn_checker.specs.declared.fault.CheckFault.{CheckFault}
use Rattle.fzn_checker.specs.declared.fault.CheckFault.TheVariants.{File, Refused, NotVersionOne, Memory, Read, WriteOutput, WriteCert}
use Rattle.fzn_checker.specs.Answered.{Shows}
use Rattle.fzn_checker.specs.Held.{IsCertificate}
use Rattle.fzn_checker.specs.Opened.{IsHeadOf}
use Rattle.fzn_sources.specs.Items.{AreSources}
use Rattle.fzn_core.specs.declared.listing.Listed.{Listed}
use Rattle.fzn_core.specs.Core.{IsCore}

-- ---- the text

abbrev pub labelled : List ℕ → ℕ → List ℕ
labelled label number = label ++ decimal number

abbrev pub position_label : Position → List ℕ
position_label position = labelled (codes " line ") position.line ++ labelled (codes " column ") position.column ++ codes ": "

-- the bytes of the item, and a line feed
abbrev pub item_line : List ℕ → Span → List ℕ
item_line bytes item = slice_range bytes item.start item.end ++ 10 ∷ []

abbrev pub listed_line : List ℕ → ℕ → Span → List ℕ
listed_line bytes number item = decimal number ++ position_label item.position ++ item_line bytes item

abbrev pub line_at : List ℕ → ℕ → Option Span → List ℕ
line_at bytes number None = []
line_at bytes number (Some item) = listed_line bytes number item

-- the line of the constraint with this number, by the items that state the constraints
abbrev pub number_line : List ℕ → List Span → ℕ → List ℕ
number_line bytes sources number = line_at bytes number (slice_get sources (number - 1))

abbrev pub open_mark : Bool → List ℕ
open_mark true = 10 ∷ []
open_mark false = codes ", open" ++ 10 ∷ []

-- two counts, and this ending
abbrev pub share_ended : ℕ → ℕ → List ℕ → List ℕ
share_ended listed constraints ending = decimal listed ++ codes " of " ++ decimal constraints ++ ending

abbrev pub share_text : ℕ → ℕ → Bool → List ℕ
share_text listed constraints closed = share_ended listed constraints (open_mark closed)

-- a line for each constraint listed, and how many they are
abbrev pub core_text : List ℕ → List Span → List ℕ → Bool → List ℕ
core_text bytes sources numbers closed = flat_map (number_line bytes sources) numbers ++ share_text (length numbers) (length sources) closed

-- ---- the answer

-- The file states a model, and the certificate is accepted for it. The text lists the constraints that the answer rests on, each with the item
-- of the file that states it.
pub record Lists (file cert : Option (List ℕ)) (text : List ℕ) (answer : Listed) : Type 0 where
  pub bytes : List ℕ
  pub whole : IfSome file (λ all. all ≡ bytes)
  pub model : Model
  pub found : List (List ℤ)
  pub shows : Shows file cert model found answer.closed
  -- what the certificate derives, the model with it, and the steps
  pub read : List Derivation
  pub after : Model
  pub derives : IsHeadOf model after read
  pub version : Version
  pub steps : List Step
  pub certificate : IsCertificate model after version cert steps answer.closed
  pub sources : List Span
  pub stated : AreSources bytes model.constraints sources
  pub numbers : List ℕ
  pub core : IsCore model after read found answer.closed numbers
  pub is : text ≡ core_text bytes sources numbers answer.closed
  pub counts : (answer.listed ≡ length numbers) × (answer.constraints ≡ length model.constraints)

-- such a text is printed, whole
abbrev pub IsCoreListed : Option (List ℕ) → Option (List ℕ) → Option (List ℕ) → Option (List ℕ) → Listed → Type 0
IsCoreListed file cert before after answer = (text : List ℕ) × Lists file cert text answer × Appends before after text

-- The file's first fault, or the first faulty line of the certificate; nothing is printed then. After a failed write a beginning of such a
-- text stands.
abbrev pub IsListFault : Option (List ℕ) → Option (List ℕ) → Option (List ℕ) → Option (List ℕ) → CheckFault → Type 0
IsListFault file cert before after (File fault) = Keeps before after × IfSome file (λ bytes. Reads bytes (Err (errors.Fault fault)))
IsListFault file cert before after (Refused line refusal) = Keeps before after × ((model : Model) × States file model × IsOutcomeOn model cert (refused line refusal))
IsListFault file cert before after Memory = Keeps before after
IsListFault file cert before after Read = Keeps before after
IsListFault file cert before after WriteOutput = (answer : Listed) × (text : List ℕ) × Lists file cert text answer × AppendsFront before after text
IsListFault file cert before after NotVersionOne = ⊥
IsListFault file cert before after WriteCert = ⊥
