-- The text in front of a certificate's steps, and the model that they are steps of.
use Rattle.std.specs.Prelude.{◌≡◌, ℕ, Bool, true, List, Option, Some, None}
use Rattle.fzn_meaning.specs.declared.model.Model.{Model}
use Rattle.fzn_cert.specs.declared.step.Version.TheVariants.{Two}
use Rattle.fzn_cert.specs.Spelling.{header_lines}
use Rattle.fzn_cert.specs.Verdict.{header_of}
use Rattle.fzn_head.specs.Opening.{IsOpeningOf}

-- the first two lines of version two
abbrev pub two_lines : Model → List ℕ
two_lines model = header_lines (header_of model Two)

-- these lines, or the first two of version two
abbrev pub opening_of : Model → Option (List ℕ) → List ℕ
opening_of model None = two_lines model
opening_of model (Some lines) = lines

-- What is searched in a model's place, and the text in front of the steps: where constraints are derived, the model with these, and the
-- lines that derive them; else the model itself, and the first two lines of version two.
pub data IsOpening (derive : Bool) (model after : Model) (opening : List ℕ) : Type 0 where
  derived : derive ≡ true → IsOpeningOf model after opening → IsOpening derive model after opening
  plain : after ≡ model → opening ≡ two_lines model → IsOpening derive model after opening
