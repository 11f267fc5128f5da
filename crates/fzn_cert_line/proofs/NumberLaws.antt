-- Words of digits: what they are worth, and which number each is written for.
use Rattle.std.proofs.Common.{◌≡◌, ℕ, ◌+◌, ◌*◌, ◌-◌, ◌^◌, ◌<◌, ◌≤◌, eqb, leb, List, length, get_or, take, Some, sym, arith, lit<}
use Rattle.std.specs.Prelude.{◌&&◌, ◌||◌, not}
use Rattle.std.specs.List.{list_all}
use Rattle.std.specs.Char.{is_ascii_digit}
use Rattle.std.specs.Str.Parse.{digits_value}
use Rattle.std.specs.Fmt.{decimal}
use Rattle.std.proofs.Math.Nat.{pow-le-pow_right}
use Rattle.std.proofs.lemmas.Str.{digit_value_digit}
use Rattle.std.proofs.lemmas.Int.Digits.{digits_value_more, digits_value-lt}
use Rattle.std.proofs.lemmas.Str.Parse.{digit_at, digits_value-take-le}
use Rattle.std.proofs.lemmas.Fmt.{decimal-digits_value}
use Rattle.fzn_cert.specs.Words.{is_sized, is_numeral, natural_of}
use Rattle.fzn_cert.proofs.CallerLemmas.{AreDigits, own_digits, and_true}
use Rattle.fzn_cert_line.proofs.OptionLaws.{guard_some}

pub digits_bound : (ds : List ℕ) → AreDigits ds → length ds ≤ 18 → digits_value 10 ds < 10 ^ 18
digits_bound ds are len =
    let low = digits_value-lt 10 ds (own_digits.to ds are) in
    let le : 10 ^ length ds ≤ 10 ^ 18 = pow-le-pow_right {n = 10} (lit< tt) {i = length ds} {j = 18} len in
    omega (arith, low, le)

-- one more digit
pub digits_step : (ds : List ℕ) (i : ℕ) → AreDigits ds → length ds ≤ 18 → i < length ds
    → (digits_value 10 (take (i + 1) ds) ≡ digits_value 10 (take i ds) * 10 + (get_or ds i 0 - 48)) × (digits_value 10 (take (i + 1) ds) < 10 ^ 18)
digits_step ds i are len lt =
    let more = digits_value_more 10 ds i lt in
    let within = digit_at ds i (own_digits.to ds are) lt in
    let value = digit_value_digit (get_or ds i 0) within in
    let upto = digits_value-take-le 10 ds (i + 1) (lit< tt) in
    let bound = digits_bound ds are len in
    (omega (arith, more, value), omega (arith, upto, bound))

-- a word that is read is what is written for its number
pub natural_takes : (word : List ℕ) (n : ℕ) → natural_of word ≡ Some n → (word ≡ decimal n) × (n < 10 ^ 18)
unfolding natural_of
natural_takes word n e =
    let g = guard_some (is_numeral word) (digits_value 10 word) n e in
    let t = and_true (is_sized word) (list_all is_ascii_digit word) g.0 in
    let s = and_true (not (eqb (length word) 0) && leb (length word) 18) (eqb (length word) 1 || not (eqb (get_or word 0 0) 48)) t.0 in
    let r = and_true (not (eqb (length word) 0)) (leb (length word) 18) s.0 in
    let len : length word ≤ 18 = grind (arith, r.1) in
    let some : 0 < length word = grind (arith, r.0) in
    let lone : get_or word 0 0 ≡ 48 → length word ≡ 1 = λ h. grind (arith, s.1, h) in
    let bound = digits_bound word t.1 len in
    let same = decimal-digits_value own_digits word t.1 some lone (omega (arith, bound)) in
    (rw (← g.1) (sym same), rw (← g.1) bound)
