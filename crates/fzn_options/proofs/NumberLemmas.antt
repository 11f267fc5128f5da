-- Words of digits, as `parse` reads them.
use Rattle.std.proofs.Common.{◌≡◌, ℕ, ◌<◌, ◌≤◌, ◌^◌, Bool, true, List, [], ◌∷◌, length, Result, refl, sym, ap, ◌∙◌}
use Rattle.std.specs.Prelude.{◌&&◌}
use Rattle.std.specs.List.{list_all}
use Rattle.std.specs.Result.{OkIff}
use Rattle.std.specs.Char.{is_ascii_digit}
use Rattle.std.specs.Str.{all_ascii_digits}
use Rattle.std.specs.Str.Parse.{digits_value, ParsesUnsigned}
use Rattle.std.proofs.lemmas.Str.Parse.{IsDigitsTest, IsNumeralModel, numerals_by_value, tells_all_ascii_digits, parse_digits}

abbrev pub AreDigits : List ℕ → Type 0
AreDigits ds = list_all is_ascii_digit ds ≡ true

same_digits : (ds : List ℕ) → list_all is_ascii_digit ds ≡ all_ascii_digits ds
same_digits [] = refl
same_digits (d ∷ ds) = ap (λ (b : Bool). is_ascii_digit d && b) (same_digits ds)

tests_digits : IsDigitsTest AreDigits
tests_digits = record {
  empty = refl;
  parts = λ c cs e. (let t = tells_all_ascii_digits.parts c cs (sym (same_digits (c ∷ cs)) ∙ e) in (t.0, same_digits cs ∙ t.1));
  more = λ c cs h e. same_digits (c ∷ cs) ∙ tells_all_ascii_digits.more c cs h (sym (same_digits cs) ∙ e);
}

own_digits : IsNumeralModel AreDigits (digits_value 10)
own_digits = numerals_by_value AreDigits tests_digits

-- digits are read as their number, where it is below 2^64
pub digits_read : {E : Type 0} (word : List ℕ) (r : Result ℕ E) → ParsesUnsigned 64 10 word r → AreDigits word → 1 ≤ length word
    → OkIff r ((0 < length word) × (digits_value 10 word < 2 ^ 64)) (digits_value 10 word)
digits_read word r read are some = parse_digits own_digits 64 word r read are
