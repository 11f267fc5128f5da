-- The head of a certificate of version three: two lines, and then those that derive constraints.
use Rattle.std.specs.Prelude.{◌≡◌, ℕ, ◌≤◌, ◌&&◌, List, [], ◌∷◌, ◌++◌, length, Option, Some, None, if◌then◌else◌, codes}
use Rattle.std.specs.Fmt.{decimal}
use Rattle.std.specs.Str.{bytes_eq}
use Rattle.fzn_derive.specs.declared.derivation.Derivation.{Derivation}
use Rattle.fzn_cert.specs.declared.limits.TheConstants.{LINE_LIMIT}
use Rattle.fzn_cert.specs.Spelling.{counts_text, IsSized}
use Rattle.fzn_cert.specs.Stream.{IsVersionText}
use Rattle.fzn_cert.specs.Words.{◌>>=◌, natural_of}
use Rattle.fzn_cert.specs.Derivations.{IsDerivation, derivation_text}
use Rattle.fzn_head.specs.declared.head.Head.{Head}

-- ---- the first two lines

abbrev pub three_text : List ℕ
three_text = codes "fzc 3"

abbrev pub three_line : List ℕ
three_line = three_text ++ 10 ∷ []

-- no more than 18 digits each
abbrev pub IsSizedHead : Head → Type 0
IsSizedHead head = IsSized head.variables × IsSized head.constraints × IsSized head.derived

abbrev pub head_counts : Head → List ℕ
head_counts head = counts_text head.variables head.constraints ++ (codes " new " ++ decimal head.derived)

abbrev pub head_counts_line : Head → List ℕ
head_counts_line head = head_counts head ++ 10 ∷ []

-- what stands on a first line, of whichever version
pub data IsFirstText (text : List ℕ) : Type 0 where
  early : IsVersionText text → IsFirstText text
  third : text ≡ three_text → IsFirstText text

abbrev pub IsHeadCountsText : List ℕ → Type 0
IsHeadCountsText text = (head : Head) × IsSizedHead head × (text ≡ head_counts head)

-- the words of the second line
abbrev pub head_words : Head → List (List ℕ)
head_words head = codes "vars" ∷ decimal head.variables ∷ codes "cons" ∷ decimal head.constraints ∷ codes "new" ∷ decimal head.derived ∷ []

-- and how they are read
abbrev pub head_of_numbers : List ℕ → List ℕ → List ℕ → Option Head
head_of_numbers n m k = do
  variables ← natural_of n
  constraints ← natural_of m
  derived ← natural_of k
  Some (record { variables = variables; constraints = constraints; derived = derived })

unfoldable pub head_of_words : List (List ℕ) → Option Head
head_of_words [] = None
head_of_words (a ∷ []) = None
head_of_words (a ∷ n ∷ []) = None
head_of_words (a ∷ n ∷ b ∷ []) = None
head_of_words (a ∷ n ∷ b ∷ m ∷ []) = None
head_of_words (a ∷ n ∷ b ∷ m ∷ c ∷ []) = None
head_of_words (a ∷ n ∷ b ∷ m ∷ c ∷ k ∷ []) =
    if bytes_eq a (codes "vars") && bytes_eq b (codes "cons") && bytes_eq c (codes "new") then head_of_numbers n m k else None
head_of_words (a ∷ n ∷ b ∷ m ∷ c ∷ k ∷ d ∷ rest) = None

-- ---- the lines that derive constraints

abbrev pub derivation_line : Derivation → List ℕ
derivation_line derivation = derivation_text derivation ++ 10 ∷ []

-- one after another
abbrev pub derivation_lines : List Derivation → List ℕ
derivation_lines [] = []
derivation_lines (derivation ∷ later) = derivation_line derivation ++ derivation_lines later

-- the derivation has a line, which keeps the limit
abbrev pub HasDerivationLine : Derivation → Type 0
HasDerivationLine derivation = IsDerivation derivation × (length (derivation_text derivation) ≤ LINE_LIMIT)

abbrev pub IsDerivationText : List ℕ → Type 0
IsDerivationText text = (derivation : Derivation) × IsDerivation derivation × (text ≡ derivation_text derivation)
