-- The words of a line, and where a line ends.
use Rattle.std.proofs.Common.{◌≡◌, ℕ, suc, ◌^◌, ◌<◌, Bool, true, false, eqb, List, [], ◌∷◌, ◌++◌, length, map, Option, Some, refl, sym, ap, subst, ◌∙◌, arith, append_assoc}
use Rattle.std.specs.Prelude.{◌&&◌, not, ℤ, pos, negsuc, codes}
use Rattle.std.specs.List.{list_all, AllByRecursion, join_with_byte, slice_split}
use Rattle.std.specs.Char.{is_ascii_digit}
use Rattle.std.specs.Fmt.{decimal, signed_decimal}
use Rattle.std.proofs.lemmas.List.Folds.{list_all-append}
use Rattle.std.proofs.lemmas.Fmt.{digits_decimal}
use Rattle.fzn_domain.specs.declared.literal.Op.{Op}
use Rattle.fzn_domain.specs.declared.literal.Op.TheVariants.{AtMost, AtLeast, Equal, NotEqual}
use Rattle.fzn_domain.specs.declared.literal.Lit.{Lit}
use Rattle.fzn_cert.specs.declared.step.Step.{Step}
use Rattle.fzn_cert.specs.declared.step.Version.{Version}
use Rattle.fzn_cert.specs.declared.step.Version.TheVariants.{Two}
use Rattle.fzn_cert.specs.declared.step.Step.TheVariants.{Infer, Resolve, Solution, Delete}
use Rattle.fzn_rules.specs.declared.rule.Rule.{Rule}
use Rattle.fzn_rules.specs.declared.rule.Rule.TheVariants.{Lin, Rows, Box, Fixed, Enum, Hall, Load, Energy, Cut, Pair, Row}
use Rattle.fzn_cert.specs.Spelling.{op_text, rule_name, hints, literal_text, step_words, spaced, step_text, step_line, IsNumber, IsValue, IsHint, IsLiteral, IsSpelled}
use Rattle.fzn_cert.specs.Reading.{words_of, step_of_words, step_of}
use Rattle.fzn_cert.proofs.NumberLaws.{AreDigits, own_digits}
use Rattle.fzn_cert.proofs.WordLaws.{IsShort, hint_is_short, value_is_short}
use Rattle.fzn_cert.proofs.StepLaws.{hints_fit, step_again}

pub and_true : (a b : Bool) → (a && b) ≡ true → (a ≡ true) × (b ≡ true)
and_true true b e = (refl, e)
and_true false b e = absurd cc

-- neither a space nor a line feed
abbrev pub is_plain : ℕ → Bool
is_plain b = not (eqb b 32) && not (eqb b 10)

abbrev pub IsPlain : List ℕ → Type 0
IsPlain word = list_all is_plain word ≡ true

plain_append : (a b : List ℕ) → IsPlain a → IsPlain b → IsPlain (a ++ b)
plain_append a b x y = rw (list_all-append is_plain a b, x, y) refl

plain_digits : (ds : List ℕ) → AreDigits ds → IsPlain ds
plain_digits [] h = refl
plain_digits (d ∷ ds) h =
    let t = and_true (is_ascii_digit d) (list_all is_ascii_digit ds) h in
    let one : is_plain d ≡ true = grind (arith, t.0) in
    rw (one, plain_digits ds t.1) refl

pub plain_decimal : (n : ℕ) → n < 10 ^ 18 → IsPlain (decimal n)
plain_decimal n lt = plain_digits (decimal n) (digits_decimal own_digits n (omega arith))

pub plain_signed : (z : ℤ) → IsShort z → IsPlain (signed_decimal z)
unfolding IsShort
plain_signed (pos n) h = plain_decimal n h
plain_signed (negsuc n) h = rw (plain_decimal (suc n) h) refl

plain_op : (op : Op) → IsPlain (op_text op)
plain_op AtMost = refl
plain_op AtLeast = refl
plain_op Equal = refl
plain_op NotEqual = refl

plain_literal : (lit : Lit) → IsLiteral lit → IsPlain (literal_text lit)
plain_literal lit h =
    plain_append (decimal lit.var.0) (op_text lit.op ++ signed_decimal lit.value) (plain_decimal lit.var.0 h.0.1)
    (plain_append (op_text lit.op) (signed_decimal lit.value) (plain_op lit.op) (plain_signed lit.value (value_is_short lit.value h.1)))

plain_name : (rule : Rule) → IsPlain (rule_name rule)
plain_name Lin = refl
plain_name Rows = refl
plain_name Box = refl
plain_name Fixed = refl
plain_name Enum = refl
plain_name (Hall a b) = refl
plain_name (Load t) = refl
plain_name (Energy t u) = refl
plain_name (Cut ps) = refl
plain_name (Pair i j) = refl
plain_name Row = refl

abbrev pub ArePlain : List (List ℕ) → Type 0
ArePlain words = AllByRecursion IsPlain words

pub plain_map : {A : Type 0} (text : A → List ℕ) (P : A → Type 0) → ((x : A) → P x → IsPlain (text x)) → (xs : List A) → AllByRecursion P xs → ArePlain (map text xs)
plain_map text P plain [] h = tt
plain_map text P plain (x ∷ xs) h = (plain x h.0, plain_map text P plain xs h.1)

pub plain_joined : (xs ys : List (List ℕ)) → ArePlain xs → ArePlain ys → ArePlain (xs ++ ys)
plain_joined [] ys h k = k
plain_joined (x ∷ xs) ys h k = (h.0, plain_joined xs ys h.1 k)

pub step_words_are_plain : (v : Version) (step : Step) → IsSpelled v step → ArePlain (step_words step)
step_words_are_plain v (Infer it) h = (
  refl,
  (
    plain_decimal it.constraint h.0.1,
    (
      plain_name it.rule,
      plain_joined (map signed_decimal (hints it.rule)) (codes ";" ∷ map literal_text it.clause)
          (plain_map signed_decimal IsHint (λ z k. plain_signed z (hint_is_short z k)) (hints it.rule) (hints_fit it.rule h.1))
          (refl, plain_map literal_text IsLiteral plain_literal it.clause h.2),
    ),
  ),
)
step_words_are_plain v (Resolve clause ids) h = (
  refl,
  plain_joined (map literal_text clause) (codes ";" ∷ map decimal ids)
      (plain_map literal_text IsLiteral plain_literal clause h.0)
      (refl, plain_map decimal IsNumber (λ n k. plain_decimal n k.1) ids h.1),
)
step_words_are_plain v (Solution values) h = (refl, plain_map signed_decimal IsValue (λ z k. plain_signed z (value_is_short z k)) values h)
step_words_are_plain v (Delete ids) h = (refl, plain_map decimal IsNumber (λ n k. plain_decimal n k.1) ids h.2)

-- ---- the words of a line

abbrev is_space : ℕ → Bool
is_space b = eqb b 32

not_true : (b : Bool) → not b ≡ true → b ≡ false
not_true true e = absurd cc
not_true false e = refl

split_word : (word rest : List ℕ) → IsPlain word → slice_split is_space (word ++ 32 ∷ rest) ≡ word ∷ slice_split is_space rest
split_word [] rest h = refl
split_word (b ∷ word) rest h =
    let t = and_true (is_plain b) (list_all is_plain word) h in
    let apart = not_true (eqb b 32) (and_true (not (eqb b 32)) (not (eqb b 10)) t.0).0 in
    rw (apart, split_word word rest t.1) refl

split_last : (word : List ℕ) → IsPlain word → slice_split is_space word ≡ word ∷ []
split_last [] h = refl
split_last (b ∷ word) h =
    let t = and_true (is_plain b) (list_all is_plain word) h in
    let apart = not_true (eqb b 32) (and_true (not (eqb b 32)) (not (eqb b 10)) t.0).0 in
    rw (apart, split_last word t.1) refl

words_joined : (word : List ℕ) (words : List (List ℕ)) → IsPlain word → ArePlain words → slice_split is_space (join_with_byte 32 (word ∷ words)) ≡ word ∷ words
words_joined word [] h hs = split_last word h
words_joined word (next ∷ words) h hs =
    split_word word (join_with_byte 32 (next ∷ words)) h ∙ ap (λ (ws : List (List ℕ)). word ∷ ws) (words_joined next words hs.0 hs.1)

pub words_of-spaced : (words : List (List ℕ)) → 0 < length words → ArePlain words → words_of (spaced words) ≡ words
unfolding spaced
words_of-spaced [] some h = absurd (omega arith)
words_of-spaced (word ∷ words) some h = words_joined word words h.0 h.1

words_some : (step : Step) → 0 < length (step_words step)
words_some (Infer it) = omega arith
words_some (Resolve clause ids) = omega arith
words_some (Solution values) = omega arith
words_some (Delete ids) = omega arith

-- what is written for a step is read as that step
pub text_again : (v : Version) (step : Step) → IsSpelled v step → step_of v (step_text step) ≡ Some step
text_again v step h = ap (step_of_words v) (words_of-spaced (step_words step) (words_some step) (step_words_are_plain v step h)) ∙ step_again v step h

-- ---- where a line ends

abbrev pub is_inside : ℕ → Bool
is_inside b = not (eqb b 10)

-- no byte is a line feed
abbrev pub IsInside : List ℕ → Type 0
IsInside text = list_all is_inside text ≡ true

pub inside_word : (word : List ℕ) → IsPlain word → IsInside word
inside_word [] h = refl
inside_word (b ∷ word) h =
    let t = and_true (is_plain b) (list_all is_plain word) h in
    rw ((and_true (not (eqb b 32)) (not (eqb b 10)) t.0).1, inside_word word t.1) refl

pub inside_joined : (words : List (List ℕ)) → ArePlain words → IsInside (join_with_byte 32 words)
inside_joined [] h = refl
inside_joined (word ∷ []) h = inside_word word h.0
inside_joined (word ∷ next ∷ words) h =
    rw (list_all-append is_inside word (32 ∷ join_with_byte 32 (next ∷ words)), inside_word word h.0, inside_joined (next ∷ words) h.1) refl

pub text_is_inside : (v : Version) (step : Step) → IsSpelled v step → IsInside (step_text step)
unfolding spaced
text_is_inside v step h = inside_joined (step_words step) (step_words_are_plain v step h)

-- the first line feed ends the line
pub same_lines : (p q x y : List ℕ) → IsInside p → IsInside q → p ++ 10 ∷ x ≡ q ++ 10 ∷ y → (p ≡ q) × (x ≡ y)
same_lines [] [] x y h k e = (refl, cc)
same_lines [] (c ∷ q) x y h k e =
    let same : 10 ≡ c = cc in
    absurd (subst (λ (b : ℕ). is_inside b ≡ true → ⊥) same (λ t. cc) (and_true (is_inside c) (list_all is_inside q) k).0)
same_lines (b ∷ p) [] x y h k e =
    let same : 10 ≡ b = cc in
    absurd (subst (λ (c : ℕ). is_inside c ≡ true → ⊥) same (λ t. cc) (and_true (is_inside b) (list_all is_inside p) h).0)
same_lines (b ∷ p) (c ∷ q) x y h k e =
    let heads : b ≡ c = cc in
    let tails : p ++ 10 ∷ x ≡ q ++ 10 ∷ y = cc in
    let more = same_lines p q x y (and_true (is_inside b) (list_all is_inside p) h).1 (and_true (is_inside c) (list_all is_inside q) k).1 tails in
    (ap (λ (d : ℕ). d ∷ p) heads ∙ ap (λ (r : List ℕ). c ∷ r) more.0, more.1)

-- what has a spelling in version 1 has it in version 2
in_two : (v : Version) (step : Step) → IsSpelled v step → IsSpelled Two step
in_two v (Infer it) h = h
in_two v (Resolve clause ids) h = h
in_two v (Solution values) h = h
in_two v (Delete ids) h = (refl, h.1, h.2, h.3)

abbrev some_step : Step → Option Step
some_step s = Some s

same_step : (a b : Step) → some_step a ≡ some_step b → a ≡ b
same_step a b e = cc

pub one_line_lem : (v w : Version) (a b : Step) (x y : List ℕ) → IsSpelled v a → IsSpelled w b → step_line a ++ x ≡ step_line b ++ y → (a ≡ b) × (x ≡ y)
one_line_lem v w a b x y h k e =
    let cut : step_text a ++ 10 ∷ x ≡ step_text b ++ 10 ∷ y = sym (append_assoc (step_text a) (10 ∷ []) x) ∙ e ∙ append_assoc (step_text b) (10 ∷ []) y in
    let lines = same_lines (step_text a) (step_text b) x y (text_is_inside v a h) (text_is_inside w b k) cut in
    let first = text_again Two a (in_two v a h) in
    let second = text_again Two b (in_two w b k) in
    (same_step a b (sym first ∙ ap (step_of Two) lines.0 ∙ second), lines.1)
