-- Reading a line word by word.
use Rattle.std.specs.Prelude.{ℕ, ◌==◌, nat_lt, Bool, true, not, ◌&&◌, ℤ, int_le, List, [], ◌∷◌, length, Option, Some, None, if◌then◌else◌, codes}
use Rattle.std.specs.List.{list_all, slice_split}
use Rattle.std.specs.Str.{bytes_eq}
use Rattle.fzn_cert.specs.declared.step.Version.{Version}
use Rattle.fzn_cert.specs.declared.step.Version.TheVariants.{One, Two}
use Rattle.fzn_cert.specs.declared.step.Step.{Step}
use Rattle.fzn_cert.specs.declared.step.Step.TheVariants.{Infer, Resolve, Solution, Delete}
use Rattle.fzn_rules.specs.declared.rule.Rule.{Rule}
use Rattle.fzn_rules.specs.declared.rule.Rule.TheVariants.{Lin, Rows, Box, Fixed, Enum, Hall, Load, Energy, Cut, Pair, Row}
use Rattle.fzn_cert.specs.Words.{◌>>=◌, natural_of, positive_of, is_value, hint_of, literal_of, items_of, items_before_mark}

-- ---- numbers that rise, and rules

-- each is below the next
unfoldable pub rises : List ℤ → Bool
rises [] = true
rises (x ∷ []) = true
rises (x ∷ y ∷ rest) = not (int_le y x) && rises (y ∷ rest)

unfoldable pub ids_rise : List ℕ → Bool
ids_rise [] = true
ids_rise (x ∷ []) = true
ids_rise (x ∷ y ∷ rest) = nat_lt x y && ids_rise (y ∷ rest)

unfoldable pub short_rule_of : List ℕ → List ℤ → Option Rule
short_rule_of name [] =
    if bytes_eq name (codes "lin") then Some Lin
    else (if bytes_eq name (codes "rows") then Some Rows
    else (if bytes_eq name (codes "box") then Some Box
    else (if bytes_eq name (codes "fixed") then Some Fixed
    else (if bytes_eq name (codes "enum") then Some Enum
    else (if bytes_eq name (codes "row") then Some Row else None)))))
short_rule_of name (a ∷ []) = if bytes_eq name (codes "load") then Some (Load a) else None
short_rule_of name (a ∷ b ∷ []) =
    if bytes_eq name (codes "hall") then Some (Hall a b)
    else (if bytes_eq name (codes "energy") then Some (Energy a b)
    else (if bytes_eq name (codes "pair") then Some (Pair a b) else None))
short_rule_of name (a ∷ b ∷ c ∷ rest) = None

unfoldable pub rule_spelled : List ℕ → List ℤ → Option Rule
rule_spelled name hints =
    if bytes_eq name (codes "cut") then (if rises hints then Some (Cut hints) else None)
    else short_rule_of name hints

-- ---- a line

unfoldable pub infer_of : List (List ℕ) → Option Step
infer_of [] = None
infer_of (number ∷ []) = None
infer_of (number ∷ name ∷ words) = do
  constraint ← positive_of number
  hints ← items_before_mark hint_of words
  rule ← rule_spelled name hints.0
  clause ← items_of literal_of hints.1
  Some (Infer (record { constraint = constraint; rule = rule; clause = clause }))

unfoldable pub resolve_of : List (List ℕ) → Option Step
resolve_of words = do
  clause ← items_before_mark literal_of words
  ids ← items_of positive_of clause.1
  Some (Resolve clause.0 ids)

unfoldable pub solution_of : List (List ℕ) → Option Step
solution_of words = items_of hint_of words >>= λ values. if list_all is_value values then Some (Solution values) else None

abbrev pub is_deletion : List ℕ → Bool
is_deletion ids = not (length ids == 0) && ids_rise ids

unfoldable pub delete_of : Version → List (List ℕ) → Option Step
delete_of One words = None
delete_of Two words = items_of positive_of words >>= λ ids. if is_deletion ids then Some (Delete ids) else None

unfoldable pub step_of_words : Version → List (List ℕ) → Option Step
step_of_words v [] = None
step_of_words v (kind ∷ words) =
    if bytes_eq kind (codes "i") then infer_of words
    else (if bytes_eq kind (codes "r") then resolve_of words
    else (if bytes_eq kind (codes "s") then solution_of words
    else (if bytes_eq kind (codes "d") then delete_of v words else None)))

abbrev pub words_of : List ℕ → List (List ℕ)
words_of line = slice_split (λ b. b == 32) line

abbrev pub step_of : Version → List ℕ → Option Step
step_of v line = step_of_words v (words_of line)

-- ---- the second line

unfoldable pub counts_of : List (List ℕ) → Option (ℕ × ℕ)
counts_of [] = None
counts_of (a ∷ []) = None
counts_of (a ∷ n ∷ []) = None
counts_of (a ∷ n ∷ b ∷ []) = None
counts_of (a ∷ n ∷ b ∷ m ∷ []) =
    if bytes_eq a (codes "vars") && bytes_eq b (codes "cons") then (natural_of n >>= λ variables. natural_of m >>= λ constraints. Some (variables, constraints)) else None
counts_of (a ∷ n ∷ b ∷ m ∷ c ∷ rest) = None
