-- The first lines of a certificate of version three, as they are written.
use Rattle.std.specs.Prelude.{◌≡◌, ℕ, ◌≤◌, List, [], ◌∷◌, ◌++◌, length, Option, Some, None}
use Rattle.std.specs.List.{All}
use Rattle.fzn_meaning.specs.declared.model.Model.{Model}
use Rattle.fzn_meaning.specs.Meaning.{longest}
use Rattle.fzn_derive.specs.declared.derivation.Derivation.{Derivation}
use Rattle.fzn_head.specs.declared.head.Head.{Head}
use Rattle.fzn_head.specs.Extended.{Extends, terms_held_in}
use Rattle.fzn_head.specs.Head.{three_line, head_counts_line, derivation_line, derivation_lines, HasDerivationLine}
use Rattle.fzn_head.specs.Outcome.{most_in_head}

-- the head of a certificate for the model, with so many derived constraints
abbrev pub head_for : Model → ℕ → Head
head_for model derived = record { variables = length model.vars; constraints = length model.constraints; derived = derived }

-- the lines in front of the steps: the two of the head, and those that derive
abbrev pub opening_lines : Model → List Derivation → List ℕ
opening_lines model read = three_line ++ (head_counts_line (head_for model (length read)) ++ derivation_lines read)

-- By this text, which opens a certificate of version three for the model, the model is extended so.
pub record IsOpeningOf (model after : Model) (text : List ℕ) : Type 0 where
  pub read : List Derivation
  pub lines : All HasDerivationLine read
  pub extends : Extends model read after
  pub few : terms_held_in after.constraints ≤ most_in_head model
  pub room : length after.constraints ≤ longest
  pub text_is : text ≡ opening_lines model read

-- a text that opens a certificate by which the model is extended, or none, and it is as it was
abbrev pub IsDerivedOpening : Model → Model → Option (List ℕ) → Type 0
IsDerivedOpening model after (Some text) = IsOpeningOf model after text
IsDerivedOpening model after None = after ≡ model

-- the derivation has a line, which stands behind these, and the model what it gives
pub record IsLinePushed (model after : Model) (derivation : Derivation) (old new : List ℕ) : Type 0 where
  pub line : HasDerivationLine derivation
  pub extends : Extends model (derivation ∷ []) after
  pub room : length after.constraints ≤ longest
  pub text : new ≡ old ++ derivation_line derivation
