-- The verdict on the bytes of a certificate: accepted, or refused at its first faulty line.
use Rattle.std.specs.Prelude.{◌≡◌, ◌⊎◌, ℕ, ◌+◌, Bool, true, false, List, [], ◌∷◌, ◌++◌, ℤ, length, Option, Some}
use Rattle.std.specs.List.{fold}
use Rattle.std.specs.Io.KnownBytes.{IsAtEnd}
use Rattle.fzn_meaning.specs.declared.model.Model.{Model}
use Rattle.fzn_cert.specs.declared.fault.FaultKind.TheVariants as faults
use Rattle.fzn_cert.specs.declared.header.Header.{Header}
use Rattle.fzn_cert.specs.declared.refusal.Refusal.{Refusal}
use Rattle.fzn_cert.specs.declared.refusal.Refusal.TheVariants.{Header as BadHeader, Spelling, Truncated, Trailing, LineTooLong, Counts, NotClosed}
use Rattle.fzn_cert.specs.declared.step.Step.{Step}
use Rattle.fzn_cert.specs.declared.step.Version.{Version}
use Rattle.fzn_cert.specs.Spelling.{step_line, end_line, version_text, counts_text, header_lines, IsHeader, HasLine, IsSized}
use Rattle.fzn_cert.specs.Stream.{After, IsFaultOf, IsHeaderFaultOf, IsVersionText, IsCountsText}
use Rattle.fzn_cert.specs.Past.{StepsPast, no_past}
use Rattle.fzn_cert.specs.Accepted.{HasFault, AllAcceptedAfter, after_step}

-- what is said of a certificate
pub data Outcome : Type 0 where
  -- its solutions in order, and whether there are no others to be found
  accepted : List (List ℤ) → Bool → Outcome
  -- the first faulty line, and what is wrong with it
  refused : ℕ → Refusal → Outcome

-- the lines of the steps, one after another
abbrev pub lines_of : List Step → List ℕ
lines_of [] = []
lines_of (step ∷ later) = step_line step ++ lines_of later

-- each has a line in this version, after so many steps
abbrev pub AllHaveLines : Version → ℕ → List Step → Type 0
AllHaveLines version count [] = Unit {0}
AllHaveLines version count (step ∷ later) = HasLine version count step × AllHaveLines version (count + 1) later

-- this text is a beginning of what is left
abbrev pub BeginsWith : Option (List ℕ) → List ℕ → Type 0
BeginsWith left text = After left text (λ _. Unit {0})

-- a closed ending needs the empty clause
abbrev pub MayEnd : StepsPast → Bool → Type 0
MayEnd past closed = closed ≡ true → past.refuted ≡ true

-- What is wrong with the line after so many accepted steps: no step or ending has it, or it says closed
-- without the empty clause, or an ending that is right is followed by a byte, or its step is not accepted.
abbrev pub IsRefusedNext : Model → Version → StepsPast → ℕ → Option (List ℕ) → Refusal → Type 0
IsRefusedNext model version past count left Spelling = IsFaultOf version count left faults.Spelling
IsRefusedNext model version past count left Truncated = IsFaultOf version count left faults.Truncated
IsRefusedNext model version past count left LineTooLong = IsFaultOf version count left faults.LineTooLong
IsRefusedNext model version past count left NotClosed = BeginsWith left (end_line true) × (past.refuted ≡ false)
IsRefusedNext model version past count left Trailing = (closed : Bool) × (byte : ℕ) × BeginsWith left (end_line closed ++ byte ∷ []) × MayEnd past closed
IsRefusedNext model version past count left refusal = (step : Step) × HasLine version count step × BeginsWith left (step_line step) × HasFault model past step refusal

-- lines are numbered from 1, and two come before the steps; a byte after the ending is one line further
abbrev pub line_after : ℕ → Refusal → ℕ
line_after count Trailing = count + 4
line_after count refusal = count + 3

-- what is left is exactly an ending, or its first line is faulty
abbrev pub EndsIn : Model → Version → StepsPast → ℕ → Option (List ℕ) → Outcome → Type 0
EndsIn model version past count left (accepted found closed) = After left (end_line closed) IsAtEnd × MayEnd past closed × (found ≡ past.solutions)
EndsIn model version past count left (refused line refusal) = (line ≡ line_after count refusal) × IsRefusedNext model version past count left refusal

-- what is left is the lines of accepted steps, and then such an end
abbrev pub VerdictFrom : Model → Version → StepsPast → ℕ → Option (List ℕ) → Outcome → Type 0
VerdictFrom model version past count left outcome = (later : List Step) × AllHaveLines version count later × AllAcceptedAfter model past later
    × After left (lines_of later) (λ rest. EndsIn model version (fold (after_step model) past later) (count + length later) rest outcome)

-- the first two lines with the model's counts
abbrev pub header_of : Model → Version → Header
header_of model version = record { version = version; variables = length model.vars; constraints = length model.constraints }

-- what is wrong with the first line
abbrev pub IsFirstRefused : Option (List ℕ) → Refusal → Type 0
IsFirstRefused left BadHeader = IsHeaderFaultOf IsVersionText left faults.Header
IsFirstRefused left Truncated = IsHeaderFaultOf IsVersionText left faults.Truncated
IsFirstRefused left LineTooLong = IsHeaderFaultOf IsVersionText left faults.LineTooLong
IsFirstRefused left _ = ⊥

-- the line tells numbers that are not the model's
abbrev pub HasOtherCounts : Model → Option (List ℕ) → Type 0
HasOtherCounts model left = (variables : ℕ) × (constraints : ℕ) × IsSized variables × IsSized constraints
    × BeginsWith left (counts_text variables constraints ++ 10 ∷ []) × ((variables ≡ length model.vars) × (constraints ≡ length model.constraints) → ⊥)

-- and with the second
abbrev pub IsSecondRefused : Model → Option (List ℕ) → Refusal → Type 0
IsSecondRefused model left BadHeader = IsHeaderFaultOf IsCountsText left faults.Header
IsSecondRefused model left Truncated = IsHeaderFaultOf IsCountsText left faults.Truncated
IsSecondRefused model left LineTooLong = IsHeaderFaultOf IsCountsText left faults.LineTooLong
IsSecondRefused model left Counts = HasOtherCounts model left
IsSecondRefused model left _ = ⊥

-- the first line is faulty, or the second after a first that is not
abbrev pub IsHeaderRefused : Model → Option (List ℕ) → Outcome → Type 0
IsHeaderRefused model left (accepted found closed) = ⊥
IsHeaderRefused model left (refused line refusal) =
    ((line ≡ 1) × IsFirstRefused left refusal)
    ⊎ ((line ≡ 2) × ((version : Version) × After left (version_text version ++ 10 ∷ []) (λ rest. IsSecondRefused model rest refusal)))

-- The verdict on what a reader has: one of the first two lines is faulty, or they have the model's counts, in at most 18 digits
-- each, and after them come accepted steps and an end. A reader that does not tell its bytes may have any.
abbrev pub VerdictOn : Model → Option (List ℕ) → Outcome → Type 0
VerdictOn model left outcome = IsHeaderRefused model left outcome
    ⊎ ((version : Version) × IsHeader (header_of model version) × After left (header_lines (header_of model version)) (λ rest. VerdictFrom model version no_past 0 rest outcome))

-- the verdict on the bytes of a certificate
abbrev pub Verdict : Model → List ℕ → Outcome → Type 0
Verdict model bytes outcome = VerdictOn model (Some bytes) outcome
