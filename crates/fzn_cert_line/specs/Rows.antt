-- The letters with which the items of a row begin, as they are read.
use Rattle.std.specs.Prelude.{ℕ, List, [], ◌∷◌, Option, Some, None, codes}
use Rattle.fzn_cert.specs.Words.{◌>>=◌, positive_of}
use Rattle.fzn_cert.specs.Derivations.{before_item, from_item}
use Rattle.fzn_cert_line.specs.declared.row.Letter.{Letter}
use Rattle.fzn_cert_line.specs.declared.row.Letter.TheVariants.{Multiples, Prices, Move, Columns, Rows}

abbrev pub letter_word : Letter → List ℕ
letter_word Multiples = codes "l"
letter_word Prices = codes "p"
letter_word Move = codes "m"
letter_word Columns = codes "t"
letter_word Rows = codes "w"

-- the words from a letter on that has been taken, or none where the words were at an end
abbrev pub from_letter : Option Letter → List (List ℕ) → List (List ℕ)
from_letter None words = []
from_letter (Some letter) words = letter_word letter ∷ words

-- the number that the first word spells
unfoldable pub leading_number : List (List ℕ) → Option ℕ
leading_number [] = None
leading_number (word ∷ words) = positive_of word

-- what the words in front of the next item spell, and the words from there on
unfoldable pub up_to_item : {A : Type 0} → (List (List ℕ) → Option A) → List (List ℕ) → Option (A × List (List ℕ))
up_to_item f words = f (before_item words) >>= λ x. Some (x, from_item words)
