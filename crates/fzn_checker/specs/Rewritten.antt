-- A certificate of version 1 written anew as one of version 2.
use Rattle.std.specs.Prelude.{◌≡◌, ◌⊎◌, ℕ, ◌↔◌, Bool, true, List, [], ◌∷◌, ◌++◌, length, Option, IfSome}
use Rattle.std.specs.Io.KnownBytes.{Consumes, IsAtEnd, Appends, Keeps}
use Rattle.fzn_streams.specs.Output.{AppendsFront}
use Rattle.fzn_meaning.specs.declared.model.Model.{Model}
use Rattle.fzn_cert.specs.declared.fault.FaultKind.TheVariants as faults
use Rattle.fzn_cert.specs.declared.refusal.Refusal.{Refusal}
use Rattle.fzn_cert.specs.declared.refusal.Refusal.TheVariants.{Header, Spelling, Truncated, Trailing, LineTooLong}
use Rattle.fzn_cert.specs.declared.step.Step.{Step}
use Rattle.fzn_cert.specs.declared.step.Version.{Version}
use Rattle.fzn_cert.specs.declared.step.Version.TheVariants.{One, Two}
use Rattle.fzn_cert.specs.Spelling.{step_line, end_line, version_text, counts_text, HasLine, IsSized}
use Rattle.fzn_cert.specs.Stream.{After, IsFaultOf, IsHeaderFaultOf, IsCountsText}
use Rattle.fzn_cert.specs.Verdict.{Outcome, Verdict, lines_of, AllHaveLines, BeginsWith, line_after}
use Rattle.fzn_head.specs.Head.{three_line}
use Rattle.fzn_head.specs.Outcome.{IsOpeningRefused}
use Rattle.fzn_checker.specs.declared.fault.CheckFault.{CheckFault}
use Rattle.fzn_checker.specs.declared.fault.CheckFault.TheVariants.{File, Refused, NotVersionOne, Memory, Read, WriteOutput, WriteCert}

abbrev pub first_line : Version → List ℕ
first_line version = version_text version ++ 10 ∷ []

abbrev pub second_line : ℕ → ℕ → List ℕ
second_line variables constraints = counts_text variables constraints ++ 10 ∷ []

-- what follows the first line of a certificate of version 1 with this many steps: the second line, the lines of the steps, and one
-- `e` line
pub record IsBody (count : ℕ) (rest : List ℕ) : Type 0 where
  pub variables : ℕ
  pub constraints : ℕ
  pub sized : IsSized variables × IsSized constraints
  pub steps : List Step
  pub closed : Bool
  pub spelled : AllHaveLines One 0 steps
  pub counted : count ≡ length steps
  pub text : rest ≡ second_line variables constraints ++ (lines_of steps ++ end_line closed)

-- The old bytes are a certificate of version 1 by its spelling. Those written have another first line, and the same bytes after it; no
-- model tells the two apart.
pub record IsRewritten (old before after : Option (List ℕ)) (count : ℕ) : Type 0 where
  pub rest : List ℕ
  pub spelled : IsBody count rest
  pub text : IfSome old (λ bytes. bytes ≡ first_line One ++ rest)
  pub written : Appends before after (first_line Two ++ rest)
  pub same_verdict : (model : Model) (outcome : Outcome) → Verdict model (first_line One ++ rest) outcome ↔ Verdict model (first_line Two ++ rest) outcome

-- ---- faults

-- what is wrong with the second line
abbrev pub IsCountsFault : Option (List ℕ) → Refusal → Type 0
IsCountsFault left Header = IsHeaderFaultOf IsCountsText left faults.Header
IsCountsFault left Truncated = IsHeaderFaultOf IsCountsText left faults.Truncated
IsCountsFault left LineTooLong = IsHeaderFaultOf IsCountsText left faults.LineTooLong
IsCountsFault left _ = ⊥

-- what is wrong with the line after so many steps of version 1
abbrev pub IsStepLineFault : ℕ → Option (List ℕ) → Refusal → Type 0
IsStepLineFault count left Spelling = IsFaultOf One count left faults.Spelling
IsStepLineFault count left Truncated = IsFaultOf One count left faults.Truncated
IsStepLineFault count left LineTooLong = IsFaultOf One count left faults.LineTooLong
IsStepLineFault count left Trailing = IsFaultOf One count left faults.Trailing
IsStepLineFault count left _ = ⊥

-- the first faulty line, and what is wrong with it
pub data IsFaulty (old : Option (List ℕ)) (line : ℕ) (refusal : Refusal) : Type 0 where
  first : line ≡ 1 → IsOpeningRefused old refusal → IsFaulty old line refusal
  -- after a first line of version 1
  second : line ≡ 2 → After old (first_line One) (λ left. IsCountsFault left refusal) → IsFaulty old line refusal
  -- after the first two lines and those of these steps
  later : (variables constraints : ℕ) (steps : List Step) → IsSized variables → IsSized constraints → AllHaveLines One 0 steps → line ≡ line_after (length steps) refusal
      → After old (first_line One ++ (second_line variables constraints ++ lines_of steps)) (λ left. IsStepLineFault (length steps) left refusal) → IsFaulty old line refusal

-- nothing was written, or a beginning of the bytes that stand for those of the old certificate
pub data IsRewriteBegun (old before after : Option (List ℕ)) : Type 0 where
  nothing : Keeps before after → IsRewriteBegun old before after
  some_of : After old (first_line One) (λ left. IfSome left (λ rest. AppendsFront before after (first_line Two ++ rest))) → IsRewriteBegun old before after

-- the first line is that of version two or three
abbrev pub IsOtherVersion : Option (List ℕ) → Type 0
IsOtherVersion left = BeginsWith left (first_line Two) ⊎ BeginsWith left three_line

abbrev pub IsRewriteFault : Option (List ℕ) → Option (List ℕ) → Option (List ℕ) → CheckFault → Type 0
IsRewriteFault old before after (Refused line refusal) = IsFaulty old line refusal × IsRewriteBegun old before after
IsRewriteFault old before after NotVersionOne = IsOtherVersion old × Keeps before after
IsRewriteFault old before after Memory = IsRewriteBegun old before after
IsRewriteFault old before after Read = IsRewriteBegun old before after
IsRewriteFault old before after WriteCert = IsRewriteBegun old before after
IsRewriteFault old before after WriteOutput = ⊥
IsRewriteFault old before after (File fault) = ⊥

-- a failed read is answered only where one of the old bytes failed, and a failed write only where one of the new ones failed, or their
-- flush
pub record IsRewriteDue (old new : Bool) (fault : CheckFault) : Type 0 where
  pub read : fault ≡ Read → old ≡ true
  pub write : fault ≡ WriteCert → new ≡ true

-- ---- line by line

abbrev pub IsFirstLineFault : Option (List ℕ) → CheckFault → Type 0
IsFirstLineFault left (Refused line refusal) = (line ≡ 1) × IsOpeningRefused left refusal
IsFirstLineFault left NotVersionOne = IsOtherVersion left
IsFirstLineFault left Memory = Unit {0}
IsFirstLineFault left Read = Unit {0}
IsFirstLineFault left _ = ⊥

-- this text was taken from a reader, and put on a writer
abbrev pub Copies : List ℕ → Option (List ℕ) → Option (List ℕ) → Option (List ℕ) → Option (List ℕ) → Type 0
Copies text left next before after = Consumes left next text × Appends before after text

abbrev pub CopiesCounts : Option (List ℕ) → Option (List ℕ) → Option (List ℕ) → Option (List ℕ) → Type 0
CopiesCounts left next before after =
    (variables : ℕ) × (constraints : ℕ) × IsSized variables × IsSized constraints × Copies (second_line variables constraints) left next before after

abbrev pub CopiesStep : ℕ → Option (List ℕ) → Option (List ℕ) → Option (List ℕ) → Option (List ℕ) → Type 0
CopiesStep count left next before after = (step : Step) × HasLine One count step × Copies (step_line step) left next before after

abbrev pub CopiesEnd : Option (List ℕ) → Option (List ℕ) → Option (List ℕ) → Option (List ℕ) → Type 0
CopiesEnd left next before after = (closed : Bool) × Copies (end_line closed) left next before after × IsAtEnd next

-- A faulty line is not written. After a failed write a beginning of the line stands.
abbrev pub IsCopyFault : (ℕ → Refusal → Type 0) → Option (List ℕ) → Option (List ℕ) → Option (List ℕ) → CheckFault → Type 0
IsCopyFault IsWrong left before after (Refused line refusal) = IsWrong line refusal × Keeps before after
IsCopyFault IsWrong left before after Memory = Keeps before after
IsCopyFault IsWrong left before after Read = Keeps before after
IsCopyFault IsWrong left before after WriteCert = (text : List ℕ) × BeginsWith left text × AppendsFront before after text
IsCopyFault IsWrong left before after _ = ⊥

abbrev pub IsCountsCopyFault : Option (List ℕ) → Option (List ℕ) → Option (List ℕ) → CheckFault → Type 0
IsCountsCopyFault left before after fault = IsCopyFault (λ line refusal. (line ≡ 2) × IsCountsFault left refusal) left before after fault

abbrev pub IsLineCopyFault : ℕ → Option (List ℕ) → Option (List ℕ) → Option (List ℕ) → CheckFault → Type 0
IsLineCopyFault count left before after fault = IsCopyFault (λ line refusal. (line ≡ line_after count refusal) × IsStepLineFault count left refusal) left before after fault
