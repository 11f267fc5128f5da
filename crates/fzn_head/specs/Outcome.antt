-- The verdict on the bytes of a certificate of any version.
use Rattle.std.specs.Prelude.{◌≡◌, ◌⊎◌, ℕ, ◌+◌, ◌-◌, ◌<◌, ◌≤◌, List, [], ◌∷◌, ◌++◌, length, Option, Some}
use Rattle.std.specs.List.{All}
use Rattle.fzn_meaning.specs.declared.model.Model.{Model}
use Rattle.fzn_meaning.specs.Meaning.{longest}
use Rattle.fzn_derive.specs.declared.derivation.Derivation.{Derivation}
use Rattle.fzn_cited.specs.declared.fault.DeriveFault.TheVariants as derive
use Rattle.fzn_cert.specs.declared.fault.FaultKind.TheVariants as faults
use Rattle.fzn_cert.specs.declared.refusal.Refusal.{Refusal}
use Rattle.fzn_cert.specs.declared.refusal.Refusal.TheVariants.{Header as BadHeader, Spelling, Truncated, LineTooLong, Counts, NoSuchConstraint, NoSuchVariable, NotDerived}
use Rattle.fzn_cert.specs.declared.step.Version.TheVariants.{Two}
use Rattle.fzn_cert.specs.declared.step.Version.{Version}
use Rattle.fzn_cert.specs.Spelling.{version_text}
use Rattle.fzn_cert.specs.Stream.{After, IsHeaderFaultOf}
use Rattle.fzn_cert.specs.Past.{no_past}
use Rattle.fzn_cert.specs.Verdict.{Outcome, accepted, refused, BeginsWith, VerdictFrom, VerdictOn}
use Rattle.fzn_head.specs.declared.head.Head.{Head}
use Rattle.fzn_head.specs.declared.extender.TheConstants.{TERM_LIMIT}
use Rattle.fzn_head.specs.Extended.{Extends, IsFaultyWithin, terms_held_in}
use Rattle.fzn_head.specs.Head.{three_line, head_counts_line, derivation_line, derivation_lines, HasDerivationLine, IsSizedHead, IsFirstText, IsHeadCountsText, IsDerivationText}

-- what is wrong with the first line
abbrev pub IsOpeningRefused : Option (List ℕ) → Refusal → Type 0
IsOpeningRefused left BadHeader = IsHeaderFaultOf IsFirstText left faults.Header
IsOpeningRefused left Truncated = IsHeaderFaultOf IsFirstText left faults.Truncated
IsOpeningRefused left LineTooLong = IsHeaderFaultOf IsFirstText left faults.LineTooLong
IsOpeningRefused left _ = ⊥

-- ---- version three

-- the head tells the model's counts, and with what is derived there are at most 100,000 constraints
pub record FitsModel (model : Model) (head : Head) : Type 0 where
  pub variables : head.variables ≡ length model.vars
  pub constraints : head.constraints ≡ length model.constraints
  pub room : head.derived ≤ longest - length model.constraints

-- what is wrong with its second line
abbrev pub IsHeadRefused : Model → Option (List ℕ) → Refusal → Type 0
IsHeadRefused model left BadHeader = IsHeaderFaultOf IsHeadCountsText left faults.Header
IsHeadRefused model left Truncated = IsHeaderFaultOf IsHeadCountsText left faults.Truncated
IsHeadRefused model left LineTooLong = IsHeaderFaultOf IsHeadCountsText left faults.LineTooLong
IsHeadRefused model left Counts = (head : Head) × IsSizedHead head × BeginsWith left (head_counts_line head) × (FitsModel model head → ⊥)
IsHeadRefused model left _ = ⊥

-- what is wrong with a line that has to derive a constraint: no derivation has it, or it gives none, or one with which the model has more
-- terms than this
abbrev pub IsDerivationRefused : ℕ → Model → Option (List ℕ) → Refusal → Type 0
IsDerivationRefused most model left Spelling = IsHeaderFaultOf IsDerivationText left faults.Header
IsDerivationRefused most model left Truncated = IsHeaderFaultOf IsDerivationText left faults.Truncated
IsDerivationRefused most model left LineTooLong = IsHeaderFaultOf IsDerivationText left faults.LineTooLong
IsDerivationRefused most model left NoSuchVariable = (derivation : Derivation) × HasDerivationLine derivation × BeginsWith left (derivation_line derivation) × IsFaultyWithin most model derivation derive.NoSuchVariable
IsDerivationRefused most model left NoSuchConstraint = (derivation : Derivation) × HasDerivationLine derivation × BeginsWith left (derivation_line derivation) × IsFaultyWithin most model derivation derive.NoSuchConstraint
IsDerivationRefused most model left NotDerived = (derivation : Derivation) × HasDerivationLine derivation × BeginsWith left (derivation_line derivation) × IsFaultyWithin most model derivation derive.NotDerived
IsDerivationRefused most model left _ = ⊥

-- the same, so many lines further on
abbrev pub further_on : ℕ → Outcome → Outcome
further_on lines (accepted found closed) = accepted found closed
further_on lines (refused line refusal) = refused (lines + line) refusal

-- behind the lines that derive constraints come steps of version two, of the model with these constraints
abbrev pub StepsBehind : Model → ℕ → Option (List ℕ) → Outcome → Type 0
StepsBehind model lines left outcome = (inner : Outcome) × VerdictFrom model Two no_past 0 left inner × (outcome ≡ further_on lines inner)

-- after so many lines that derive constraints, which come behind two others, the next one derives none
abbrev pub RefusedBehind : ℕ → Model → ℕ → Option (List ℕ) → Outcome → Type 0
RefusedBehind most model lines left outcome = (refusal : Refusal) × IsDerivationRefused most model left refusal × (outcome ≡ refused (lines + 3) refusal)

-- so many terms the model has at most with constraints that are derived
abbrev pub most_in_head : Model → ℕ
most_in_head model = TERM_LIMIT + terms_held_in model.constraints

-- These lines derive constraints, each from the model's and those before it, with 1,000,000 terms at most together. There are as many as the
-- head tells, and steps come behind them; or there are fewer, and the next line derives none, or one with too many terms.
pub record HeadVerdict (model : Model) (derived : ℕ) (left : Option (List ℕ)) (outcome : Outcome) : Type 0 where
  pub read : List Derivation
  pub lines : All HasDerivationLine read
  pub after : Model
  pub extends : Extends model read after
  pub few : terms_held_in after.constraints ≤ most_in_head model
  pub behind : After left (derivation_lines read) (λ rest. ((length read ≡ derived) × StepsBehind after derived rest outcome)
      ⊎ ((length read < derived) × RefusedBehind (most_in_head model) after (length read) rest outcome))

-- behind a first line of version three: the second is wrong, or it fits the model, and so on
abbrev pub VerdictOfThree : Model → Option (List ℕ) → Outcome → Type 0
VerdictOfThree model left outcome =
    ((refusal : Refusal) × IsHeadRefused model left refusal × (outcome ≡ refused 2 refusal))
    ⊎ ((head : Head) × IsSizedHead head × FitsModel model head × After left (head_counts_line head) (λ rest. HeadVerdict model head.derived rest outcome))

-- ---- any version

-- What is said of a certificate: its first line is wrong; or it is of version one or two, and this is the verdict on it; or it is of
-- version three, and this is what its other lines come to.
pub data IsOutcomeOn (model : Model) (left : Option (List ℕ)) (outcome : Outcome) : Type 0 where
  opening : (refusal : Refusal) → IsOpeningRefused left refusal → outcome ≡ refused 1 refusal → IsOutcomeOn model left outcome
  early : (version : Version) → BeginsWith left (version_text version ++ 10 ∷ []) → VerdictOn model left outcome → IsOutcomeOn model left outcome
  third : After left three_line (λ rest. VerdictOfThree model rest outcome) → IsOutcomeOn model left outcome

-- the verdict on the bytes of a certificate of any version
abbrev pub IsOutcomeOf : Model → List ℕ → Outcome → Type 0
IsOutcomeOf model bytes outcome = IsOutcomeOn model (Some bytes) outcome
