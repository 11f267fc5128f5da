-- Reading one word, and words in a row.
use Rattle.std.specs.Prelude.{ℕ, ◌==◌, nat_eq, nat_le, Bool, not, ◌&&◌, ◌||◌, ℤ, pos, int_le, neg_ℤ, List, [], ◌∷◌, length, take, drop, slice_index, Option, Some, None, if◌then◌else◌, codes}
use Rattle.std.specs.List.{list_all, position_or_len, starts_with}
use Rattle.std.specs.Char.{is_ascii_digit}
use Rattle.std.specs.Str.{bytes_eq}
use Rattle.std.specs.Str.Parse.{digits_value}
use Rattle.fzn_domain.specs.declared.literal.TheConstants.{LEAST_BOUND, GREATEST_BOUND}
use Rattle.fzn_domain.specs.declared.literal.Op.{Op}
use Rattle.fzn_domain.specs.declared.literal.Op.TheVariants.{AtMost, AtLeast, Equal, NotEqual}
use Rattle.fzn_domain.specs.declared.literal.Lit.{Lit}
use Rattle.fzn_rules.specs.declared.rule.TheConstants.{LEAST_HINT, GREATEST_HINT}

infixl 10 ◌>>=◌
abbrev pub ◌>>=◌ : {A B : Type 0} → Option A → (A → Option B) → Option B
None >>= f = None
(Some x) >>= f = f x

-- ---- one word

-- from 1 to 18 bytes, without a leading zero
abbrev pub is_sized : List ℕ → Bool
is_sized word = not (length word == 0) && nat_le (length word) 18 && (length word == 1 || not (slice_index word 0 == 48))

abbrev pub is_numeral : List ℕ → Bool
is_numeral word = is_sized word && list_all is_ascii_digit word

unfoldable pub natural_of : List ℕ → Option ℕ
natural_of word = if is_numeral word then Some (digits_value 10 word) else None

-- at least 1
unfoldable pub positive_of : List ℕ → Option ℕ
positive_of word = natural_of word >>= λ n. if n == 0 then None else Some n

unfoldable pub integer_of : List ℕ → Option ℤ
integer_of word =
    if slice_index word 0 == 45 then (positive_of (drop 1 word) >>= λ n. Some (neg_ℤ (pos n)))
    else (natural_of word >>= λ n. Some (pos n))

abbrev pub is_between : ℤ → ℤ → ℤ → Bool
is_between low high z = int_le low z && int_le z high

unfoldable pub integer_within : ℤ → ℤ → List ℕ → Option ℤ
integer_within low high word = integer_of word >>= λ z. if is_between low high z then Some z else None

abbrev pub is_value : ℤ → Bool
is_value z = is_between LEAST_BOUND GREATEST_BOUND z

abbrev pub value_spelled : List ℕ → Option ℤ
value_spelled word = integer_within LEAST_BOUND GREATEST_BOUND word

abbrev pub hint_of : List ℕ → Option ℤ
hint_of word = integer_within LEAST_HINT GREATEST_HINT word

-- an operator at the front, and the bytes after it
unfoldable pub op_at : List ℕ → Option (Op × List ℕ)
op_at text =
    if starts_with nat_eq text (codes "<=") then Some (AtMost, drop 2 text)
    else (if starts_with nat_eq text (codes ">=") then Some (AtLeast, drop 2 text)
    else (if starts_with nat_eq text (codes "==") then Some (Equal, drop 2 text)
    else (if starts_with nat_eq text (codes "!=") then Some (NotEqual, drop 2 text)
    else None)))

-- how many digits stand at the front
abbrev pub digits_len : List ℕ → ℕ
digits_len word = position_or_len (λ b. not (is_ascii_digit b)) word

unfoldable pub literal_of : List ℕ → Option Lit
literal_of word = do
  var ← positive_of (take (digits_len word) word)
  op ← op_at (drop (digits_len word) word)
  value ← value_spelled op.1
  Some (record { var = record { 0 = var }; op = op.0; value = value })

-- ---- words in a row

unfoldable pub items_of : {A : Type 0} → (List ℕ → Option A) → List (List ℕ) → Option (List A)
items_of f [] = Some []
items_of f (word ∷ words) = do
  first ← f word
  others ← items_of f words
  Some (first ∷ others)

-- the items before the mark `;`, and the words after it
unfoldable pub items_before_mark : {A : Type 0} → (List ℕ → Option A) → List (List ℕ) → Option (List A × List (List ℕ))
items_before_mark f [] = None
items_before_mark f (word ∷ words) =
    if bytes_eq word (codes ";") then Some ([], words)
    else (f word >>= λ first. items_before_mark f words >>= λ others. Some (first ∷ others.0, others.1))
