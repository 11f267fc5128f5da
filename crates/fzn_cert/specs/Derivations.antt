-- The lines that derive constraints: the one spelling of each, and how it is read.
use Rattle.std.specs.Prelude.{ℕ, Bool, ◌&&◌, ◌||◌, ℤ, pos, negsuc, List, [], ◌∷◌, ◌++◌, map, Option, Some, None, if◌then◌else◌, codes}
use Rattle.std.specs.List.{AllByRecursion, flat_map}
use Rattle.std.specs.Str.{bytes_eq}
use Rattle.std.specs.Fmt.{decimal, signed_decimal}
use Rattle.fzn_domain.specs.declared.literal.VarId.{VarId}
use Rattle.fzn_cited.specs.declared.multiple.Multiple.{Multiple}
use Rattle.fzn_row.specs.declared.item.RowItem.{RowItem}
use Rattle.fzn_row.specs.declared.item.RowItem.TheVariants.{Multiples, Prices, Move, Columns, Rows}
use Rattle.fzn_derive.specs.declared.derivation.Derivation.{Derivation}
use Rattle.fzn_derive.specs.declared.derivation.Derivation.TheVariants.{Sum, Parity, AllDifferent, Row}
use Rattle.fzn_cert.specs.Text.{spaced}
use Rattle.fzn_cert.specs.Spelling.{IsBetween, IsNumber}
use Rattle.fzn_cert.specs.Words.{◌>>=◌, positive_of, integer_within, items_of, items_before_mark}
use Rattle.fzn_cert.specs.Reading.{words_of}

-- ---- the text

abbrev pub var_text : VarId → List ℕ
var_text var = decimal var.0

abbrev pub multiple_words : Multiple → List (List ℕ)
multiple_words multiple = signed_decimal multiple.multiplier ∷ decimal multiple.constraint ∷ []

-- the number that has the first price, and the prices
abbrev pub priced_words : ℤ → List ℤ → List (List ℕ)
priced_words low prices = signed_decimal low ∷ map signed_decimal prices

-- an item of a row: its letter, and the numbers behind it
abbrev pub item_words : RowItem → List (List ℕ)
item_words (Multiples multiples) = codes "l" ∷ flat_map multiple_words multiples
item_words (Prices constraint low prices) = codes "p" ∷ decimal constraint ∷ priced_words low prices
item_words (Move constraint variable) = codes "m" ∷ decimal constraint ∷ var_text variable ∷ []
item_words (Columns constraint column low prices) = codes "t" ∷ decimal constraint ∷ decimal column ∷ priced_words low prices
item_words (Rows constraint variable) = codes "w" ∷ decimal constraint ∷ var_text variable ∷ []

-- the words of a derivation's line
abbrev pub derivation_words : Derivation → List (List ℕ)
derivation_words (Sum multiples) = codes "c" ∷ codes "lin" ∷ codes ";" ∷ flat_map multiple_words multiples
derivation_words (Parity constraints) = codes "c" ∷ codes "xor" ∷ codes ";" ∷ map decimal constraints
derivation_words (AllDifferent variables constraints) = codes "c" ∷ codes "alldiff" ∷ codes ";" ∷ (map var_text variables ++ codes ";" ∷ map decimal constraints)
derivation_words (Row items) = codes "c" ∷ codes "row" ∷ codes ";" ∷ flat_map item_words items

abbrev pub derivation_text : Derivation → List ℕ
derivation_text derivation = spaced (derivation_words derivation)

-- ---- which have a line

-- from -10^12 to 10^12
abbrev pub IsMultiplier : ℤ → Type 0
IsMultiplier k = IsBetween (negsuc 999999999999) (pos 1000000000000) k

abbrev pub IsMultiple : Multiple → Type 0
IsMultiple multiple = IsMultiplier multiple.multiplier × IsNumber multiple.constraint

abbrev pub IsVariableNumber : VarId → Type 0
IsVariableNumber var = IsNumber var.0

-- from -10^9 to 10^9
abbrev pub IsFirstPriced : ℤ → Type 0
IsFirstPriced low = IsBetween (negsuc 999999999) (pos 1000000000) low

-- a price keeps the limits of a multiplier
abbrev pub ArePriced : ℤ → List ℤ → Type 0
ArePriced low prices = IsFirstPriced low × AllByRecursion IsMultiplier prices

abbrev pub IsRowItem : RowItem → Type 0
IsRowItem (Multiples multiples) = AllByRecursion IsMultiple multiples
IsRowItem (Prices constraint low prices) = IsNumber constraint × ArePriced low prices
IsRowItem (Move constraint variable) = IsNumber constraint × IsVariableNumber variable
IsRowItem (Columns constraint column low prices) = IsNumber constraint × IsNumber column × ArePriced low prices
IsRowItem (Rows constraint variable) = IsNumber constraint × IsVariableNumber variable

-- the numbers have a spelling
abbrev pub IsDerivation : Derivation → Type 0
IsDerivation (Sum multiples) = AllByRecursion IsMultiple multiples
IsDerivation (Parity constraints) = AllByRecursion IsNumber constraints
IsDerivation (AllDifferent variables constraints) = AllByRecursion IsVariableNumber variables × AllByRecursion IsNumber constraints
IsDerivation (Row items) = AllByRecursion IsRowItem items

-- ---- reading

abbrev pub multiplier_of : List ℕ → Option ℤ
multiplier_of word = integer_within (negsuc 999999999999) (pos 1000000000000) word

abbrev pub variable_of : List ℕ → Option VarId
variable_of word = positive_of word >>= λ n. Some (record { 0 = n })

unfoldable pub multiples_of : List (List ℕ) → Option (List Multiple)
multiples_of [] = Some []
multiples_of (word ∷ []) = None
multiples_of (word ∷ next ∷ words) = do
  multiplier ← multiplier_of word
  constraint ← positive_of next
  others ← multiples_of words
  Some (record { multiplier = multiplier; constraint = constraint } ∷ others)

abbrev pub first_priced_of : List ℕ → Option ℤ
first_priced_of word = integer_within (negsuc 999999999) (pos 1000000000) word

-- the number that has the first price, and the prices
unfoldable pub priced_of : List (List ℕ) → Option (ℤ × List ℤ)
priced_of [] = None
priced_of (first ∷ words) = first_priced_of first >>= λ low. items_of multiplier_of words >>= λ prices. Some (low, prices)

-- a variable, and nothing behind it
unfoldable pub only_variable_of : List (List ℕ) → Option VarId
only_variable_of [] = None
only_variable_of (word ∷ []) = variable_of word
only_variable_of (word ∷ next ∷ words) = None

-- a number, and what the words behind it spell
unfoldable pub behind_number : {A : Type 0} → (List (List ℕ) → Option A) → List (List ℕ) → Option (ℕ × A)
behind_number f [] = None
behind_number f (word ∷ words) = positive_of word >>= λ number. f words >>= λ x. Some (number, x)

abbrev pub prices_of : List (List ℕ) → Option RowItem
prices_of words = behind_number priced_of words >>= λ it. Some (Prices it.0 it.1.0 it.1.1)

abbrev pub move_of : List (List ℕ) → Option RowItem
move_of words = behind_number only_variable_of words >>= λ it. Some (Move it.0 it.1)

abbrev pub columns_of : List (List ℕ) → Option RowItem
columns_of words = behind_number (behind_number priced_of) words >>= λ it. Some (Columns it.0 it.1.0 it.1.1.0 it.1.1.1)

abbrev pub rows_of : List (List ℕ) → Option RowItem
rows_of words = behind_number only_variable_of words >>= λ it. Some (Rows it.0 it.1)

-- the item of this letter, with these words behind it
unfoldable pub row_item_of : List ℕ → List (List ℕ) → Option RowItem
row_item_of letter words =
    if bytes_eq letter (codes "l") then (multiples_of words >>= λ multiples. Some (Multiples multiples))
    else (if bytes_eq letter (codes "p") then prices_of words
    else (if bytes_eq letter (codes "m") then move_of words
    else (if bytes_eq letter (codes "t") then columns_of words
    else (if bytes_eq letter (codes "w") then rows_of words
    else None))))

-- an item begins with this word
unfoldable pub is_letter : List ℕ → Bool
is_letter word = bytes_eq word (codes "l") || (bytes_eq word (codes "p") || (bytes_eq word (codes "m") || (bytes_eq word (codes "t") || bytes_eq word (codes "w"))))

-- the words in front of the first item, and those from it on
unfoldable pub before_item : List (List ℕ) → List (List ℕ)
before_item [] = []
before_item (word ∷ words) = if is_letter word then [] else word ∷ before_item words

unfoldable pub from_item : List (List ℕ) → List (List ℕ)
from_item [] = []
from_item (word ∷ words) = if is_letter word then word ∷ words else from_item words

-- the items that begin among the words
unfoldable pub items_among : List (List ℕ) → Option (List RowItem)
items_among [] = Some []
items_among (word ∷ words) =
    if is_letter word then (row_item_of word (before_item words) >>= λ item. items_among words >>= λ others. Some (item ∷ others))
    else items_among words

-- the items that all the words spell
unfoldable pub row_items_of : List (List ℕ) → Option (List RowItem)
row_items_of [] = Some []
row_items_of (word ∷ words) = if is_letter word then items_among (word ∷ words) else None

-- the words behind the name and the mark
unfoldable pub named_derivation : List ℕ → List (List ℕ) → Option Derivation
named_derivation name words =
    if bytes_eq name (codes "lin") then (multiples_of words >>= λ multiples. Some (Sum multiples))
    else (if bytes_eq name (codes "xor") then (items_of positive_of words >>= λ constraints. Some (Parity constraints))
    else (if bytes_eq name (codes "alldiff") then (items_before_mark variable_of words >>= λ variables. items_of positive_of variables.1 >>= λ constraints. Some (AllDifferent variables.0 constraints))
    else (if bytes_eq name (codes "row") then (row_items_of words >>= λ items. Some (Row items))
    else None)))

unfoldable pub derivation_of_words : List (List ℕ) → Option Derivation
derivation_of_words [] = None
derivation_of_words (kind ∷ []) = None
derivation_of_words (kind ∷ name ∷ []) = None
derivation_of_words (kind ∷ name ∷ mark ∷ words) = if bytes_eq kind (codes "c") && bytes_eq mark (codes ";") then named_derivation name words else None

abbrev pub derivation_of : List ℕ → Option Derivation
derivation_of line = derivation_of_words (words_of line)
