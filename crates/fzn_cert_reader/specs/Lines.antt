-- What a line takes of the bytes, by how it ended.
use Rattle.std.specs.Prelude.{◌≡◌, ℕ, ◌+◌, ◌≤◌, List, ◌∷◌, [], ◌++◌, length, Option}
use Rattle.std.specs.Io.KnownBytes.{IsAtEnd}
use Rattle.fzn_cert_reader.specs.declared.lines.LineEnd.{LineEnd}
use Rattle.fzn_cert_reader.specs.declared.lines.LineEnd.TheVariants.{Whole, Truncated, TooLong}
use Rattle.fzn_cert.specs.declared.limits.TheConstants.{LINE_LIMIT}

abbrev pub bytes_taken : LineEnd → List ℕ → List ℕ
bytes_taken Whole text = text ++ 10 ∷ []
bytes_taken Truncated text = text
bytes_taken TooLong text = text

abbrev pub EndsLine : LineEnd → Option (List ℕ) → List ℕ → Type 0
EndsLine Whole left text = length text ≤ LINE_LIMIT
EndsLine Truncated left text = (length text ≤ LINE_LIMIT) × IsAtEnd left
EndsLine TooLong left text = length text ≡ LINE_LIMIT + 1
