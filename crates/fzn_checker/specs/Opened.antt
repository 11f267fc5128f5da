-- What reading the lines in front of the first step comes to.
use Rattle.std.specs.Prelude.{◌≡◌, ℕ, ◌+◌, ◌≤◌, ◌^◌, [], ◌∷◌, List, length, Option, Some}
use Rattle.std.specs.List.{All}
use Rattle.std.specs.Io.KnownBytes.{Consumes}
use Rattle.fzn_meaning.specs.declared.model.Model.{Model}
use Rattle.fzn_meaning.specs.Meaning.{longest}
use Rattle.fzn_meaning.specs.WellFormed.{IsWellFormed}
use Rattle.fzn_derive.specs.declared.derivation.Derivation.{Derivation}
use Rattle.fzn_cited.specs.declared.fault.DeriveFault.{DeriveFault}
use Rattle.fzn_cited.specs.declared.fault.DeriveFault.TheVariants as derive
use Rattle.fzn_cert.specs.declared.fault.FaultKind.{FaultKind}
use Rattle.fzn_cert.specs.declared.fault.FaultKind.TheVariants as faults
use Rattle.fzn_cert.specs.declared.refusal.Refusal.{Refusal}
use Rattle.fzn_cert.specs.declared.refusal.Refusal.TheVariants as refusals
use Rattle.fzn_cert.specs.declared.header.Header.{Header}
use Rattle.fzn_cert.specs.declared.step.Version.{Version}
use Rattle.fzn_cert.specs.declared.step.Version.TheVariants.{Two}
use Rattle.fzn_cert.specs.Spelling.{header_lines, IsHeader}
use Rattle.fzn_cert.specs.Past.{no_past}
use Rattle.fzn_cert.specs.Verdict.{Outcome, refused, header_of}
use Rattle.fzn_cert_reader.specs.Reader.{Progress}
use Rattle.fzn_cert_reader.specs.Opening.{GivesDerivation}
use Rattle.fzn_head.specs.declared.head.Head.{Head}
use Rattle.fzn_head.specs.Extended.{Extends, terms_held_in}
use Rattle.fzn_head.specs.Head.{derivation_lines, HasDerivationLine}
use Rattle.fzn_head.specs.Opening.{IsOpeningOf}
use Rattle.fzn_head.specs.Outcome.{IsDerivationRefused, HeadVerdict, IsOutcomeOn, further_on, most_in_head}
use Rattle.fzn_checker.specs.declared.fault.CheckFault.{CheckFault}
use Rattle.fzn_checker.specs.declared.fault.CheckFault.TheVariants.{Refused, Memory, Read}
use Rattle.fzn_checker.specs.Checked.{IsMidway, ComesTo}

-- the line of a refusal is so near that 100,000 more are still a line
abbrev pub HasNearLine : CheckFault → Type 0
HasNearLine (Refused line refusal) = line ≤ 10 ^ 18 + 4
HasNearLine _ = Unit {0}

-- the fault of a line that has to derive a constraint
abbrev pub fault_of_line : FaultKind → ℕ → CheckFault
fault_of_line faults.Read line = Read
fault_of_line faults.Truncated line = Refused line refusals.Truncated
fault_of_line faults.LineTooLong line = Refused line refusals.LineTooLong
fault_of_line faults.Header line = Refused line refusals.Spelling
fault_of_line faults.Spelling line = Refused line refusals.Spelling
fault_of_line _ line = Memory

abbrev pub fault_of_derivation : DeriveFault → ℕ → CheckFault
fault_of_derivation derive.Memory line = Memory
fault_of_derivation derive.NoSuchVariable line = Refused line refusals.NoSuchVariable
fault_of_derivation derive.NoSuchConstraint line = Refused line refusals.NoSuchConstraint
fault_of_derivation derive.NotDerived line = Refused line refusals.NotDerived

abbrev pub fault_further : ℕ → CheckFault → CheckFault
fault_further lines (Refused line refusal) = Refused (line + lines) refusal
fault_further lines fault = fault

-- the next line, which was read, derives a constraint so, and the model has it
abbrev pub DerivesNext : Model → Model → Progress → Progress → Derivation → Type 0
DerivesNext model after old new derivation = Extends model (derivation ∷ []) after × GivesDerivation old new derivation

-- the next line derives none, or one with which the model has more terms than this, and is so refused
abbrev pub IsRefusedAt : ℕ → Model → ℕ → Option (List ℕ) → Outcome → Type 0
IsRefusedAt most model line left outcome = (refusal : Refusal) × IsDerivationRefused most model left refusal × (outcome ≡ refused line refusal)

-- by lines that derive so the model has these constraints, with 1,000,000 terms more at most
pub record IsHeadOf (model after : Model) (read : List Derivation) : Type 0 where
  pub lines : All HasDerivationLine read
  pub extends : Extends model read after
  pub few : terms_held_in after.constraints ≤ most_in_head model

-- what stands in front of steps of this version: two lines with the model's counts; or the lines of version three, by which the model has
-- these constraints, and steps of version two come behind
pub data IsInFront (model after : Model) (version : Version) (text : List ℕ) : Type 0 where
  plain : after ≡ model → IsHeader (header_of model version) → text ≡ header_lines (header_of model version) → IsInFront model after version text
  headed : version ≡ Two → IsOpeningOf model after text → IsInFront model after version text

-- All lines that derive constraints were read, the model has these, and its steps come next: what they come to is what the lines from the
-- first of the head's on come to.
pub record IsTurned (model after : Model) (head : Head) (old new : Progress) : Type 0 where
  pub formed : IsWellFormed after
  pub midway : IsMidway after no_past new
  pub no_steps : new.steps ≡ 0
  pub leads : (inner : Outcome) → ComesTo after no_past new inner → HeadVerdict model head.derived old.left (further_on head.derived inner)
  pub header : Header
  pub told : new.header ≡ Some header
  pub version : header.version ≡ Two
  pub read : List Derivation
  pub counted : length read ≡ head.derived
  pub derives : IsHeadOf model after read
  pub taken : Consumes old.left new.left (derivation_lines read)

-- The model has the constraints that these many lines derive, and its steps come next: what they come to decides.
pub record IsOpened (model after : Model) (left : Option (List ℕ)) (new : Progress) (lines : ℕ) : Type 0 where
  pub formed : IsWellFormed after
  pub few : lines ≤ longest
  pub midway : IsMidway after no_past new
  pub no_steps : new.steps ≡ 0
  pub leads : (inner : Outcome) → ComesTo after no_past new inner → IsOutcomeOn model left (further_on lines inner)
  pub header : Header
  pub told : new.header ≡ Some header
  pub front : List ℕ
  pub opens : IsInFront model after header.version front
  pub taken : Consumes left new.left front
