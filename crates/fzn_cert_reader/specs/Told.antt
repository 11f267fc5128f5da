-- Which lines of a certificate the taken bytes begin with, and so what is told of them.
use Rattle.std.specs.Prelude.{◌≡◌, ℕ, Bool, List, ◌∷◌, [], ◌++◌, Option, IfSome, IfNone}
use Rattle.std.specs.Io.KnownBytes.{Consumes}
use Rattle.fzn_cert.specs.declared.header.Header.{Header}
use Rattle.fzn_cert.specs.Spelling.{end_line, header_lines, IsHeader}
use Rattle.fzn_cert.specs.Stream.{HasNoLineFeed}

-- the text stands at the front of the bytes
abbrev pub HasFront : List ℕ → List ℕ → Type 0
HasFront bytes text = (more : List ℕ) × (bytes ≡ text ++ more)

-- the taken bytes are no whole line
abbrev pub TakesPart : Option (List ℕ) → Option (List ℕ) → Type 0
TakesPart old new = (taken : List ℕ) × Consumes old new taken × HasNoLineFeed taken

-- the taken bytes begin with no line of these texts
abbrev pub TakesNone : (List ℕ → Type 0) → Option (List ℕ) → Option (List ℕ) → Type 0
TakesNone IsText old new = (taken : List ℕ) × Consumes old new taken × ((text : List ℕ) → IsText text → HasFront taken (text ++ 10 ∷ []) → ⊥)

-- the taken bytes don't begin with the first two lines of a certificate
abbrev pub TakesNoHeader : Option (List ℕ) → Option (List ℕ) → Type 0
TakesNoHeader old new = (taken : List ℕ) × Consumes old new taken × ((header : Header) → IsHeader header → HasFront taken (header_lines header) → ⊥)

-- the taken bytes begin with the last line where that is told, and else with no last line
pub record TakesEnd (old new : Option (List ℕ)) (closing : Option Bool) : Type 0 where
  pub taken : List ℕ
  pub is_taken : Consumes old new taken
  pub told : IfSome closing (λ closed. HasFront taken (end_line closed))
  pub none : IfNone closing ((closed : Bool) → HasFront taken (end_line closed) → ⊥)
