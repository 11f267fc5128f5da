-- What the next line of a certificate is, and which fault it has.
use Rattle.std.specs.Prelude.{◌≡◌, ◌⊎◌, ℕ, ◌+◌, ◌≤◌, ◌==◌, Bool, true, not, List, ◌∷◌, [], ◌++◌, length, Option, Some}
use Rattle.std.specs.List.{list_all}
use Rattle.std.specs.Io.KnownBytes.{Consumes, IsAtEnd}
use Rattle.fzn_cert.specs.declared.fault.CertFault.{CertFault}
use Rattle.fzn_cert.specs.declared.fault.FaultKind.{FaultKind}
use Rattle.fzn_cert.specs.declared.fault.FaultKind.TheVariants as faults
use Rattle.fzn_cert.specs.declared.limits.TheConstants.{LINE_LIMIT}
use Rattle.fzn_cert.specs.declared.step.Step.{Step}
use Rattle.fzn_cert.specs.declared.step.Version.{Version}
use Rattle.fzn_cert.specs.Spelling.{step_text, end_line, version_text, counts_text, IsSized, HasLine}

-- no byte is a line feed
abbrev pub HasNoLineFeed : List ℕ → Type 0
HasNoLineFeed text = list_all (λ b. not (b == 10)) text ≡ true

-- the bytes begin with this line, which keeps the limit, and its line feed
pub record BeginsWithLine (left : Option (List ℕ)) (text : List ℕ) : Type 0 where
  pub rest : Option (List ℕ)
  pub taken : Consumes left rest (text ++ 10 ∷ [])
  pub inside : HasNoLineFeed text
  pub within : length text ≤ LINE_LIMIT

-- the bytes end before a line feed
pub record IsTruncated (left : Option (List ℕ)) : Type 0 where
  pub text : List ℕ
  pub rest : Option (List ℕ)
  pub taken : Consumes left rest text
  pub inside : HasNoLineFeed text
  pub within : length text ≤ LINE_LIMIT
  pub at_end : IsAtEnd rest

-- the line passes its limit
pub record IsLineTooLong (left : Option (List ℕ)) : Type 0 where
  pub text : List ℕ
  pub rest : Option (List ℕ)
  pub taken : Consumes left rest text
  pub inside : HasNoLineFeed text
  pub past : length text ≡ LINE_LIMIT + 1

-- what is left after this text has the property
abbrev pub After : Option (List ℕ) → List ℕ → (Option (List ℕ) → Type 0) → Type 0
After left text Holds = (rest : Option (List ℕ)) × Consumes left rest text × Holds rest

-- the last line, and a byte after it
pub record IsTrailed (left : Option (List ℕ)) : Type 0 where
  pub closed : Bool
  pub byte : ℕ
  pub rest : Option (List ℕ)
  pub taken : Consumes left rest (end_line closed ++ byte ∷ [])

-- the last line says so, and a byte follows it
abbrev pub IsTrailedBy : Option (List ℕ) → Option Bool → Type 0
IsTrailedBy left closing = (closed : Bool) × (byte : ℕ) × (closing ≡ Some closed) × After left (end_line closed ++ byte ∷ []) (λ _. Unit {0})

-- the line is that of no step that may stand after so many, and not the last line
abbrev pub IsMisspelled : Version → ℕ → List ℕ → Type 0
IsMisspelled version steps text =
    ((step : Step) → HasLine version steps step → text ≡ step_text step → ⊥) × ((closed : Bool) → text ++ 10 ∷ [] ≡ end_line closed → ⊥)

-- the fault of the next line, after this many steps
abbrev pub IsFaultOf : Version → ℕ → Option (List ℕ) → FaultKind → Type 0
IsFaultOf version steps left faults.Spelling = (text : List ℕ) × BeginsWithLine left text × IsMisspelled version steps text
IsFaultOf version steps left faults.Truncated = IsTruncated left
IsFaultOf version steps left faults.LineTooLong = IsLineTooLong left
IsFaultOf version steps left faults.Trailing = IsTrailed left
IsFaultOf version steps left faults.Memory = Unit {0}
IsFaultOf version steps left faults.Read = Unit {0}
IsFaultOf version steps left _ = ⊥

-- the line of that fault: that of the next step, and one more for a byte after the last line
abbrev pub line_of_fault : FaultKind → ℕ → ℕ
line_of_fault faults.Trailing steps = steps + 4
line_of_fault _ steps = steps + 3

-- ---- the first two lines

-- the fault of a line that has none of these texts
abbrev pub IsHeaderFaultOf : (List ℕ → Type 0) → Option (List ℕ) → FaultKind → Type 0
IsHeaderFaultOf IsText left faults.Header = (text : List ℕ) × BeginsWithLine left text × (IsText text → ⊥)
IsHeaderFaultOf IsText left faults.Truncated = IsTruncated left
IsHeaderFaultOf IsText left faults.LineTooLong = IsLineTooLong left
IsHeaderFaultOf IsText left faults.Memory = Unit {0}
IsHeaderFaultOf IsText left faults.Read = Unit {0}
IsHeaderFaultOf IsText left _ = ⊥

abbrev pub IsVersionText : List ℕ → Type 0
IsVersionText text = (version : Version) × (text ≡ version_text version)

abbrev pub IsCountsText : List ℕ → Type 0
IsCountsText text = (variables : ℕ) × (constraints : ℕ) × IsSized variables × IsSized constraints × (text ≡ counts_text variables constraints)

-- the first line is faulty, or the second after a first line that is not
abbrev pub IsHeaderFault : Option (List ℕ) → CertFault → Type 0
IsHeaderFault left fault =
    ((fault.line ≡ 1) × IsHeaderFaultOf IsVersionText left fault.kind)
    ⊎ ((fault.line ≡ 2) × ((version : Version) × After left (version_text version ++ 10 ∷ []) (λ rest. IsHeaderFaultOf IsCountsText rest fault.kind)))
