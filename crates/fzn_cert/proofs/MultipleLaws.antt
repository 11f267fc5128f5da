-- Multiples and variables that are written are read again.
use Rattle.std.proofs.Common.{◌≡◌, false, List, [], ◌∷◌, Some, refl, arith}
use Rattle.std.specs.Prelude.{ℤ, pos, negsuc, codes}
use Rattle.std.specs.List.{AllByRecursion, flat_map}
use Rattle.std.specs.Str.{bytes_eq}
use Rattle.std.specs.Fmt.{decimal, signed_decimal}
use Rattle.std.proofs.lemmas.Int.{ints}
use Rattle.fzn_domain.specs.declared.literal.VarId.{VarId}
use Rattle.fzn_cited.specs.declared.multiple.Multiple.{Multiple}
use Rattle.fzn_cert.specs.Derivations.{var_text, multiple_words, IsMultiplier, IsMultiple, IsVariableNumber, multiplier_of, variable_of, multiples_of}
use Rattle.fzn_cert.proofs.WordLaws.{IsShort, number_again, within_again, first_digit, apart_from_mark}
use Rattle.fzn_cert.proofs.LineLaws.{ArePlain, plain_decimal, plain_signed}

pub multiplier_is_short : (k : ℤ) → IsMultiplier k → IsShort k
unfolding IsShort
multiplier_is_short (pos n) h = omega (arith, ints, h.0, h.1)
multiplier_is_short (negsuc n) h = omega (arith, ints, h.0, h.1)

pub multiplier_again : (k : ℤ) → IsMultiplier k → multiplier_of (signed_decimal k) ≡ Some k
multiplier_again k h = within_again (negsuc 999999999999) (pos 1000000000000) k h (multiplier_is_short k h)

pub variable_again : (var : VarId) → IsVariableNumber var → variable_of (var_text var) ≡ Some var
variable_again var h = rw (number_again var.0 h) refl

pub variable_apart : (var : VarId) → IsVariableNumber var → bytes_eq (var_text var) (codes ";") ≡ false
variable_apart var h = apart_from_mark (decimal var.0) (let w = first_digit var.0 h.1 in omega (arith, w))

pub multiples_again : (multiples : List Multiple) → AllByRecursion IsMultiple multiples → multiples_of (flat_map multiple_words multiples) ≡ Some multiples
unfolding multiples_of
multiples_again [] h = refl
multiples_again (multiple ∷ rest) h =
    rw (multiplier_again multiple.multiplier h.0.0, number_again multiple.constraint h.0.1, multiples_again rest h.1) refl

-- ---- the words of a line

pub plain_multiples : (multiples : List Multiple) → AllByRecursion IsMultiple multiples → ArePlain (flat_map multiple_words multiples)
plain_multiples [] h = tt
plain_multiples (multiple ∷ rest) h = (
  plain_signed multiple.multiplier (multiplier_is_short multiple.multiplier h.0.0),
  (plain_decimal multiple.constraint h.0.1.1, plain_multiples rest h.1),
)
