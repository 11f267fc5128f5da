-- What the parts of a row weigh, one after another.
use Rattle.std.proofs.Common.{◌≡◌, ◌↔◌, ℕ, ◌+◌, ◌*◌, ◌^◌, ◌<◌, ◌≤◌, IsTrue, int_le, List, [], ◌∷◌, ◌++◌, length, get_or, take, sym, ap, ◌∙◌, arith, ℤ, pos, ◌+ℤ◌, ◌≤ℤ◌, Option, None, Some, IsSome, refl, unwrap_or, unsigned_abs}
use Rattle.std.proofs.lemmas.Int.{ints}
use Rattle.std.proofs.lemmas.List.{take_more}
use Rattle.std.specs.List.{All}
use Rattle.fzn_meaning.specs.declared.row.Part.{Part}
use Rattle.fzn_meaning.specs.declared.row.Row.{Row}
use Rattle.fzn_meaning.specs.Separable.{weight_of, total_weight, RowHolds}

pub total_weight-push : (values : List ℤ) (parts : List Part) (part : Part) → total_weight values (parts ++ part ∷ []) ≡ total_weight values parts +ℤ unwrap_or (weight_of values part) (pos 0)
unfolding total_weight
total_weight-push values [] part = omega (arith, ints)
total_weight-push values (p ∷ parts) part =
    let rest = total_weight-push values parts part in
    omega (arith, ints, rest)

-- one more part, with its weight
pub total_weight-more : (values : List ℤ) (parts : List Part) (i : ℕ) (part : Part) (weight before after : ℤ) → i < length parts → part ≡ get_or parts i part → weight_of values part ≡ Some weight
    → before ≡ total_weight values (take i parts) → after ≡ before +ℤ weight → after ≡ total_weight values (take (i + 1) parts)
total_weight-more values parts i part weight before after inside is weighs so_far sum =
    let more : take (i + 1) parts ≡ take i parts ++ part ∷ [] = take_more parts i part inside ∙ ap (λ (p : Part). take i parts ++ p ∷ []) (sym is) in
    let pushed = total_weight-push values (take i parts) part in
    let last : unwrap_or (weight_of values part) (pos 0) ≡ weight = ap (λ (w : Option ℤ). unwrap_or w (pos 0)) weighs in
    let whole : before +ℤ weight ≡ total_weight values (take i parts ++ part ∷ []) = omega (arith, ints, pushed, last, so_far) in
    sum ∙ whole ∙ ap (total_weight values) (sym more)

pub total-bounded : (i : ℕ) (before more after : ℤ) → unsigned_abs before ≤ i * 9223372037000000000000000000000 → unsigned_abs more ≤ 1000000000000 * 2 ^ 63 + 1000000000000000000 → after ≡ before +ℤ more → unsigned_abs after ≤ (i + 1) * 9223372037000000000000000000000
total-bounded i before more after so_far here is =
    let both : unsigned_abs (before +ℤ more) ≤ unsigned_abs before + unsigned_abs more = grind (arith, ints) in
    let same = ap unsigned_abs is in
    omega arith

pub total_weight-none : (values : List ℤ) → total_weight values [] ≡ pos 0
unfolding total_weight
total_weight-none values = refl

pub not_barred : (values : List ℤ) (part : Part) → weight_of values part ≡ None → IsSome (weight_of values part) → ⊥
not_barred values part barred some = neither (weight_of values part) barred some
  where
    neither : (w : Option ℤ) → w ≡ None → IsSome w → ⊥
    neither None none some = absurd (cc)
    neither (Some w) none some = absurd (cc)

pub holds_test : (row : Row) (values : List ℤ) (total cast : ℤ) → total ≡ total_weight values row.parts → cast ≡ row.bound → All (λ (part : Part). IsSome (weight_of values part)) row.parts → IsTrue (int_le total cast) ↔ RowHolds row values
holds_test row values total cast is bound unbarred = (
  λ yes. record { none_barred = unbarred; most = le_is total cast _ _ is bound yes },
  λ holds. is_le total cast _ _ is bound holds.most,
)
  where
    le_is : (a b x y : ℤ) → a ≡ x → b ≡ y → IsTrue (int_le a b) → x ≤ℤ y
    le_is a b x y p q h = grind (arith, ints)

    is_le : (a b x y : ℤ) → a ≡ x → b ≡ y → x ≤ℤ y → IsTrue (int_le a b)
    is_le a b x y p q h = grind (arith, ints)

pub weighs_some : (values : List ℤ) (part : Part) (weight : ℤ) → weight_of values part ≡ Some weight → IsSome (weight_of values part)
weighs_some values part weight is = some (weight_of values part) is
  where
    some : (w : Option ℤ) → w ≡ Some weight → IsSome w
    some None none = absurd (cc)
    some (Some w) one = refl

pub none_below : (k : ℕ) → k < 0 → ⊥
none_below k below = omega arith
