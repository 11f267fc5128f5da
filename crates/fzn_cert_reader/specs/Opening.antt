-- What a call reads that begins a certificate of any version, or reads on in the head of one of version three.
use Rattle.std.specs.Prelude.{◌≡◌, ◌⊎◌, ℕ, ◌++◌, ◌∷◌, [], List, Option, Some}
use Rattle.std.specs.Io.KnownBytes.{Consumes}
use Rattle.fzn_derive.specs.declared.derivation.Derivation.{Derivation}
use Rattle.fzn_cert.specs.declared.fault.CertFault.{CertFault}
use Rattle.fzn_cert.specs.declared.header.Header.{Header}
use Rattle.fzn_cert.specs.declared.step.Version.{Version}
use Rattle.fzn_cert.specs.Spelling.{header_lines, version_text, IsHeader}
use Rattle.fzn_cert.specs.Stream.{After, IsHeaderFaultOf, IsCountsText}
use Rattle.fzn_head.specs.declared.head.Head.{Head}
use Rattle.fzn_head.specs.Head.{three_line, head_counts_line, derivation_line, HasDerivationLine, IsSizedHead, IsFirstText, IsHeadCountsText}
use Rattle.fzn_cert_reader.specs.Reader.{Progress, IsAtStart, MayGoOn}

-- nothing is told yet, and reading may go on
abbrev pub IsInHead : Progress → Type 0
IsInHead now = IsAtStart now.left now

-- the first two lines of version one or two were read, and steps come next
pub record BeginsEarly (old new : Progress) : Type 0 where
  pub header : Header
  pub told : new.header ≡ Some header
  pub sized : IsHeader header
  pub taken : Consumes old.left new.left (header_lines header)
  pub no_steps : new.steps ≡ 0
  pub goes_on : MayGoOn new

-- the first two lines of version three were read, and lines that derive constraints come next
pub record BeginsHead (old new : Progress) (head : Head) : Type 0 where
  pub sized : IsSizedHead head
  pub taken : Consumes old.left new.left (three_line ++ head_counts_line head)
  pub in_head : IsInHead new

-- the first line is faulty, or the second after a first line that is not
abbrev pub IsOpeningFault : Option (List ℕ) → CertFault → Type 0
IsOpeningFault left fault =
    ((fault.line ≡ 1) × IsHeaderFaultOf IsFirstText left fault.kind)
    ⊎ (((fault.line ≡ 2) × ((version : Version) × After left (version_text version ++ 10 ∷ []) (λ rest. IsHeaderFaultOf IsCountsText rest fault.kind)))
    ⊎ ((fault.line ≡ 2) × After left three_line (λ rest. IsHeaderFaultOf IsHeadCountsText rest fault.kind)))

-- the next line, which was read, derives a constraint so
pub record GivesDerivation (old new : Progress) (derivation : Derivation) : Type 0 where
  pub has_line : HasDerivationLine derivation
  pub taken : Consumes old.left new.left (derivation_line derivation)
  pub in_head : IsInHead new

-- what comes next is read as steps behind these two lines
pub record TurnsToSteps (old new : Progress) (header : Header) : Type 0 where
  pub left : new.left ≡ old.left
  pub told : new.header ≡ Some header
  pub no_steps : new.steps ≡ 0
  pub goes_on : MayGoOn new
