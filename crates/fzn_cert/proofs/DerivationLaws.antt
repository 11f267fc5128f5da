-- Derivations that are written are read again.
use Rattle.std.proofs.Common.{◌≡◌, ℕ, ◌<◌, List, ◌∷◌, ◌++◌, length, map, Some, Option, refl, sym, ap, ◌∙◌, arith}
use Rattle.std.specs.Prelude.{codes}
use Rattle.std.specs.Fmt.{decimal}
use Rattle.fzn_derive.specs.declared.derivation.Derivation.{Derivation}
use Rattle.fzn_derive.specs.declared.derivation.Derivation.TheVariants.{Sum, Parity, AllDifferent, Row}
use Rattle.fzn_cert.specs.Spelling.{spaced, IsNumber}
use Rattle.fzn_cert.specs.Words.{positive_of}
use Rattle.fzn_cert.specs.Derivations.{var_text, derivation_words, derivation_text, IsVariableNumber, IsDerivation, variable_of, named_derivation, derivation_of_words, derivation_of}
use Rattle.fzn_cert.proofs.WordLaws.{number_again, items_again, marked_again}
use Rattle.fzn_cert.proofs.LineLaws.{ArePlain, plain_decimal, plain_map, plain_joined, words_of-spaced, IsInside, inside_joined, same_lines}
use Rattle.fzn_cert.proofs.MultipleLaws.{variable_again, variable_apart, multiples_again, plain_multiples}
use Rattle.fzn_cert.proofs.RowLaws.{row_items_again, plain_items}

words_again : (derivation : Derivation) → IsDerivation derivation → derivation_of_words (derivation_words derivation) ≡ Some derivation
unfolding derivation_of_words named_derivation
words_again (Sum multiples) h = rw (multiples_again multiples h) refl
words_again (Parity constraints) h = rw (items_again positive_of decimal IsNumber number_again constraints h) refl
words_again (AllDifferent variables constraints) h =
    rw (
      marked_again variable_of var_text IsVariableNumber variable_again variable_apart variables (map decimal constraints) h.0,
      items_again positive_of decimal IsNumber number_again constraints h.1,
    ) refl
words_again (Row items) h = rw (row_items_again items h) refl

-- ---- the words of a line

words_are_plain : (derivation : Derivation) → IsDerivation derivation → ArePlain (derivation_words derivation)
words_are_plain (Sum multiples) h = (refl, (refl, (refl, plain_multiples multiples h)))
words_are_plain (Parity constraints) h = (refl, (refl, (refl, plain_map decimal IsNumber (λ n k. plain_decimal n k.1) constraints h)))
words_are_plain (AllDifferent variables constraints) h = (
  refl,
  (
    refl,
    (
      refl,
      plain_joined (map var_text variables) (codes ";" ∷ map decimal constraints)
          (plain_map var_text IsVariableNumber (λ var k. plain_decimal var.0 k.1) variables h.0)
          (refl, plain_map decimal IsNumber (λ n k. plain_decimal n k.1) constraints h.1),
    ),
  ),
)
words_are_plain (Row items) h = (refl, (refl, (refl, plain_items items h)))

words_some : (derivation : Derivation) → 0 < length (derivation_words derivation)
words_some (Sum multiples) = omega arith
words_some (Parity constraints) = omega arith
words_some (AllDifferent variables constraints) = omega arith
words_some (Row items) = omega arith

-- what is written for a derivation is read as that derivation
pub derivation_again : (derivation : Derivation) → IsDerivation derivation → derivation_of (derivation_text derivation) ≡ Some derivation
derivation_again derivation h =
    ap derivation_of_words (words_of-spaced (derivation_words derivation) (words_some derivation) (words_are_plain derivation h)) ∙ words_again derivation h

-- ---- where a line ends

pub derivation_is_inside : (derivation : Derivation) → IsDerivation derivation → IsInside (derivation_text derivation)
unfolding spaced
derivation_is_inside derivation h = inside_joined (derivation_words derivation) (words_are_plain derivation h)

abbrev some_derivation : Derivation → Option Derivation
some_derivation d = Some d

same_derivation : (a b : Derivation) → some_derivation a ≡ some_derivation b → a ≡ b
same_derivation a b e = cc

pub one_derivation_lem : (a b : Derivation) (x y : List ℕ) → IsDerivation a → IsDerivation b → derivation_text a ++ 10 ∷ x ≡ derivation_text b ++ 10 ∷ y → (a ≡ b) × (x ≡ y)
one_derivation_lem a b x y h k e =
    let lines = same_lines (derivation_text a) (derivation_text b) x y (derivation_is_inside a h) (derivation_is_inside b k) e in
    (same_derivation a b (sym (derivation_again a h) ∙ ap derivation_of lines.0 ∙ derivation_again b k), lines.1)
