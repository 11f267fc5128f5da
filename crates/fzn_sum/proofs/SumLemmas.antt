-- Sums over places, compared place by place.
use Rattle.std.proofs.Common.{◌≡◌, ◌≢◌, ℕ, zero, suc, ◌<◌, List, [], ◌∷◌, length, get_or, refl, arith, ℤ, pos, ◌+ℤ◌, ◌-ℤ◌, ◌≤ℤ◌, ◌<ℤ◌, All}
use Rattle.std.specs.List.{fold}
use Rattle.std.proofs.lemmas.Int.{ints}
use Rattle.std.proofs.lemmas.List.Elements.{All-head, All-tail}
use Rattle.fzn_values.specs.declared.term.Place.{Place}
use Rattle.fzn_values.specs.Term.{total_by}
use Rattle.fzn_builtin_rules.proofs.CallerLemmas.{total_by-cons}

from : (Place → ℤ) → ℤ → List Place → ℤ
from f a places = fold (λ sum place. sum +ℤ f place) a places

-- each place gives no less, so neither does the sum
sum_le : (f g : Place → ℤ) (places : List Place) (a b : ℤ) → a ≤ℤ b → All (λ (p : Place). f p ≤ℤ g p) places → from f a places ≤ℤ from g b places
unfolding from
sum_le f g [] a b h each = h
sum_le f g (p ∷ places) a b h each =
    let first = All-head (λ (p : Place). f p ≤ℤ g p) p places each in
    sum_le f g places (a +ℤ f p) (b +ℤ g p) (omega (arith, ints)) (All-tail (λ (p : Place). f p ≤ℤ g p) p places each)

sum_lt : (f g : Place → ℤ) (places : List Place) (a b more : ℤ) → (a +ℤ more) <ℤ b → All (λ (p : Place). f p ≤ℤ g p) places → (from f a places +ℤ more) <ℤ from g b places
unfolding from
sum_lt f g [] a b more h each = h
sum_lt f g (p ∷ places) a b more h each =
    let first = All-head (λ (p : Place). f p ≤ℤ g p) p places each in
    sum_lt f g places (a +ℤ f p) (b +ℤ g p) more (omega (arith, ints)) (All-tail (λ (p : Place). f p ≤ℤ g p) p places each)

sum_lt_at : (f g : Place → ℤ) (places : List Place) (k : ℕ) (d : Place) (a b more : ℤ) → a ≤ℤ b → k < length places → All (λ (p : Place). f p ≤ℤ g p) places → (f (get_or places k d) +ℤ more) <ℤ g (get_or places k d) → (from f a places +ℤ more) <ℤ from g b places
unfolding from
sum_lt_at f g [] k d a b more h in_places each far = absurd (omega arith)
sum_lt_at f g (p ∷ places) zero d a b more h in_places each far =
    sum_lt f g places (a +ℤ f p) (b +ℤ g p) more (omega (arith, ints)) (All-tail (λ (p : Place). f p ≤ℤ g p) p places each)
sum_lt_at f g (p ∷ places) (suc k) d a b more h in_places each far =
    let first = All-head (λ (p : Place). f p ≤ℤ g p) p places each in
    sum_lt_at f g places k d (a +ℤ f p) (b +ℤ g p) more (omega (arith, ints)) (omega arith) (All-tail (λ (p : Place). f p ≤ℤ g p) p places each) far

zero_le : pos 0 ≤ℤ pos 0
zero_le = omega (arith, ints)

pub total_le : (f g : Place → ℤ) (places : List Place) → All (λ (p : Place). f p ≤ℤ g p) places → total_by f places ≤ℤ total_by g places
unfolding from
total_le f g places each = sum_le f g places (pos 0) (pos 0) zero_le each

-- and where one place gives more than so much more, so does the sum
pub total_lt_at : (f g : Place → ℤ) (places : List Place) (k : ℕ) (d : Place) (more : ℤ) → k < length places → All (λ (p : Place). f p ≤ℤ g p) places → (f (get_or places k d) +ℤ more) <ℤ g (get_or places k d) → (total_by f places +ℤ more) <ℤ total_by g places
unfolding from
total_lt_at f g places k d more in_places each far = sum_lt_at f g places k d (pos 0) (pos 0) more zero_le in_places each far

-- ---- sums that differ at one place

pub total_same : (f g : Place → ℤ) (places : List Place) → All (λ (p : Place). f p ≡ g p) places → total_by f places ≡ total_by g places
total_same f g [] each = refl
total_same f g (p ∷ places) each =
    let first = All-head (λ (p : Place). f p ≡ g p) p places each in
    let rest = total_same f g places (All-tail (λ (p : Place). f p ≡ g p) p places each) in
    let a = total_by-cons f p places in
    let b = total_by-cons g p places in
    omega (arith, ints)

pub total_but : (f g : Place → ℤ) (places : List Place) (j : ℕ) (d : Place) → j < length places → ((k : ℕ) (e : Place) → k < length places → k ≢ j → f (get_or places k e) ≡ g (get_or places k e)) → total_by g places ≡ (total_by f places -ℤ f (get_or places j d)) +ℤ g (get_or places j d)
total_but f g [] j d in_places others = absurd (omega arith)
total_but f g (p ∷ places) zero d in_places others =
    let rest = total_same f g places (λ k e below. others (suc k) e (omega arith) (λ same. absurd (omega arith))) in
    let a = total_by-cons f p places in
    let b = total_by-cons g p places in
    omega (arith, ints)
total_but f g (p ∷ places) (suc j) d in_places others =
    let first = others 0 p (omega arith) (λ same. absurd (omega arith)) in
    let rest = total_but f g places j d (omega arith) (λ k e below apart. others (suc k) e (omega arith) (λ same. apart (omega arith))) in
    let a = total_by-cons f p places in
    let b = total_by-cons g p places in
    omega (arith, ints)
