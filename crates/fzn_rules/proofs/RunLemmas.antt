-- Runs of numbers in lists that rise.
use Rattle.std.proofs.Common.{◌≡◌, ℕ, zero, suc, ◌+◌, ◌-◌, ◌<◌, ◌≤◌, ◌⊎◌, ◌↔◌, List, true, length, get_or, sym, ap, subst, ◌∙◌, inl, inr, arith, ℤ, pos, ◌+ℤ◌, ◌-ℤ◌, ◌<ℤ◌, ◌≤ℤ◌, nat_abs}
use Rattle.std.specs.List.{Contains}
use Rattle.std.proofs.lemmas.Int.{ints}
use Rattle.std.proofs.lemmas.Bool.{cases_lt}
use Rattle.std.proofs.lemmas.List.{get_or_default}
use Rattle.fzn_domain.specs.Ascending.{IsAscending, IsPlaceOf}
use Rattle.fzn_domain.specs.IntSet.{IntSet, contains, IsRunEnd, IsNextAbove, NoneAbove}
use Rattle.fzn_rules.specs.Runs.{HasAll, HasRun}

abbrev pub at : List ℤ → ℕ → ℤ
at xs k = get_or xs k (pos 0)

-- the element so many places further is greater by so much at least
rises : (xs : List ℤ) → IsAscending xs → (i d : ℕ) → i + d < length xs → (at xs i +ℤ pos d) ≤ℤ at xs (i + d)
rises xs up i zero below = subst (λ k. (at xs i +ℤ pos 0) ≤ℤ at xs k) none (omega (arith, ints)) where
  none : i ≡ i + 0
  none = omega arith
rises xs up i (suc d) below =
    let before = rises xs up i d (omega arith) in
    let step = up (i + d) (i + suc d) (pos 0) (omega arith) below in
    more (at xs i) (at xs (i + d)) (at xs (i + suc d)) d before step
  where
    more : (a b c : ℤ) (d : ℕ) → (a +ℤ pos d) ≤ℤ b → b <ℤ c → (a +ℤ pos (suc d)) ≤ℤ c
    more a b c d h k = omega (arith, ints)

offset : (low x : ℤ) (w : ℕ) → low ≤ℤ x → x ≤ℤ (low +ℤ pos w) → (i : ℕ) × (x ≡ low +ℤ pos i) × (i ≤ w)
offset low x w h k = (nat_abs (x -ℤ low), grind (arith, ints), grind (arith, ints))

squeezed : (low a b c : ℤ) (i j : ℕ) → low ≤ℤ a → (a +ℤ pos i) ≤ℤ b → (b +ℤ pos j) ≤ℤ c → c ≡ low +ℤ pos (i + j) → b ≡ low +ℤ pos i
squeezed low a b c i j h k l m = omega (arith, ints)

-- where the element so many places further is greater by just so much, the numbers between are there
pub run_from_last : (xs : List ℤ) (low : ℤ) (first w : ℕ) → IsAscending xs → first + w < length xs → low ≤ℤ at xs first → at xs (first + w) ≡ low +ℤ pos w → HasRun xs low (low +ℤ pos w)
run_from_last xs low first w up below over last x from upto =
    let o = offset low x w from upto in
    let i = o.0 in
    let j = w - i in
    let all : w ≡ i + j = omega (arith, o.2) in
    let end : first + w ≡ (first + i) + j = omega (arith, o.2) in
    let here = rises xs up first i (omega (arith, o.2)) in
    let there = subst (λ k. (at xs (first + i) +ℤ pos j) ≤ℤ at xs k) (sym end) (rises xs up (first + i) j (omega (arith, o.2))) in
    let is = squeezed low (at xs first) (at xs (first + i)) (at xs (first + w)) i j over here there (last ∙ ap (λ n. low +ℤ pos n) all) in
    (first + i, omega (arith, o.2), get_or_default xs (first + i) x (pos 0) (omega (arith, o.2)) ∙ (is ∙ sym o.1))

-- the place of a number that is there
found : (xs : List ℤ) (x : ℤ) → Contains xs x → (k : ℕ) × (k < length xs) × (at xs k ≡ x)
found xs x (k, below, is) = (k, below, get_or_default xs k (pos 0) x below ∙ is)

not_before : (xs : List ℤ) → IsAscending xs → (i k : ℕ) → i < length xs → at xs i <ℤ at xs k → k < length xs → i < k
not_before xs up i k inside more below = elim (cases_lt i k) [
  | inl less ↦ less
  | inr upto ↦ elim (cases_lt k i) [
    | inl other ↦ absurd (crossed (at xs i) (at xs k) more (up k i (pos 0) other inside))
    | inr same ↦ absurd (let e : i ≡ k = omega arith in itself (at xs k) (subst (λ n. at xs n <ℤ at xs k) e more))
  ]
] where
  crossed : (a b : ℤ) → a <ℤ b → b <ℤ a → ⊥
  crossed a b h k = omega (arith, ints)

  itself : (a : ℤ) → a <ℤ a → ⊥
  itself a h = omega (arith, ints)

-- where all the numbers are there, the last of them stands so many places further
pub last_of_run : (xs : List ℤ) (low : ℤ) (first w : ℕ) → IsAscending xs → IsPlaceOf xs low first → HasRun xs low (low +ℤ pos w) → (first + w < length xs) × (at xs (first + w) ≡ low +ℤ pos w)
last_of_run xs low first zero up place all =
    let f = found xs low (all low (self low) (self_plus low)) in
    elim (cases_lt first f.0) [
      | inl later ↦ absurd (over (at xs first) (at xs f.0) low (up first f.0 (pos 0) later f.1) f.2 (place.after first (pos 0) (omega arith) (omega (arith, f.1))))
      | inr upto ↦ elim (cases_lt f.0 first) [
        | inl before ↦ absurd (under (at xs f.0) low f.2 (place.before f.0 (pos 0) (omega arith) before))
        | inr from ↦ let e : f.0 ≡ first + 0 = omega arith in (subst (λ k. k < length xs) e f.1, ap (at xs) (sym e) ∙ (f.2 ∙ plus_none low))
      ]
    ]
  where
    self : (x : ℤ) → x ≤ℤ x
    self x = omega (arith, ints)

    self_plus : (x : ℤ) → x ≤ℤ (x +ℤ pos 0)
    self_plus x = omega (arith, ints)

    plus_none : (x : ℤ) → x ≡ x +ℤ pos 0
    plus_none x = omega (arith, ints)

    over : (a b low : ℤ) → a <ℤ b → b ≡ low → low ≤ℤ a → ⊥
    over a b low h e k = omega (arith, ints)

    under : (a low : ℤ) → a ≡ low → a <ℤ low → ⊥
    under a low e h = omega (arith, ints)
last_of_run xs low first (suc w) up place all =
    let before = last_of_run xs low first w up place (λ x from upto. all x from (longer low x w upto)) in
    let f = found xs (low +ℤ pos (suc w)) (all (low +ℤ pos (suc w)) (above low w) (self low w)) in
    let later = not_before xs up (first + w) f.0 before.0 (next (at xs (first + w)) (at xs f.0) low w before.1 f.2) f.1 in
    elim (cases_lt (first + suc w) f.0) [
      | inl gap ↦ absurd (between (at xs (first + w)) (at xs (first + suc w)) (at xs f.0) low w before.1 f.2
          (up (first + w) (first + suc w) (pos 0) (omega arith) (omega (arith, f.1))) (up (first + suc w) f.0 (pos 0) gap f.1))
      | inr upto ↦ let e : f.0 ≡ first + suc w = omega (arith, later) in (subst (λ k. k < length xs) e f.1, ap (at xs) (sym e) ∙ f.2)
    ]
  where
    longer : (low x : ℤ) (w : ℕ) → x ≤ℤ (low +ℤ pos w) → x ≤ℤ (low +ℤ pos (suc w))
    longer low x w h = omega (arith, ints)

    above : (low : ℤ) (w : ℕ) → low ≤ℤ (low +ℤ pos (suc w))
    above low w = omega (arith, ints)

    self : (low : ℤ) (w : ℕ) → (low +ℤ pos (suc w)) ≤ℤ (low +ℤ pos (suc w))
    self low w = omega (arith, ints)

    next : (a b low : ℤ) (w : ℕ) → a ≡ low +ℤ pos w → b ≡ low +ℤ pos (suc w) → a <ℤ b
    next a b low w e f = omega (arith, ints)

    between : (a b c low : ℤ) (w : ℕ) → a ≡ low +ℤ pos w → c ≡ low +ℤ pos (suc w) → a <ℤ b → b <ℤ c → ⊥
    between a b c low w e f h k = omega (arith, ints)

-- ---- a walk from run to run

-- the members below a number are there
abbrev pub HasBelow : IntSet → List ℤ → ℤ → Type 0
HasBelow s xs low = (x : ℤ) → contains s x ≡ true → x <ℤ low → Contains xs x

upto_run : (s : IntSet) (xs : List ℤ) (low high : ℤ) → HasBelow s xs low → HasRun xs low high → (x : ℤ) → contains s x ≡ true → x ≤ℤ high → Contains xs x
upto_run s xs low high done run x there upto = elim (order x low) [
  | inl less ↦ done x there less
  | inr more ↦ run x more upto
] where
  order : (x low : ℤ) → (x <ℤ low) ⊎ (low ≤ℤ x)
  order x low = grind (arith, ints)

pub walk_on : (s : IntSet) (xs : List ℤ) (low high next : ℤ) → HasBelow s xs low → HasRun xs low high → IsNextAbove s high next → HasBelow s xs next
walk_on s xs low high next done run above x there less = upto_run s xs low high done run x there (elim (order x high) [
  | inl upto ↦ upto
  | inr more ↦ absurd (crossed x next less (above.first x there more))
]) where
  order : (x high : ℤ) → (x ≤ℤ high) ⊎ (high <ℤ x)
  order x high = grind (arith, ints)

  crossed : (x next : ℤ) → x <ℤ next → next ≤ℤ x → ⊥
  crossed x next h k = omega (arith, ints)

pub walk_ends : (s : IntSet) (xs : List ℤ) (low high : ℤ) → HasBelow s xs low → HasRun xs low high → NoneAbove s high → HasAll s xs
walk_ends s xs low high done run none x there = upto_run s xs low high done run x there (none x there)

pub run_is_needed : (s : IntSet) (xs : List ℤ) (low high : ℤ) → IsRunEnd s low high → HasAll s xs → HasRun xs low high
run_is_needed s xs low high end all x from upto = all x (end.members x from upto)

-- the place where the last number of a run has to be tells of all of it
pub run_test : (xs : List ℤ) (low high : ℤ) (first w : ℕ) → IsAscending xs → IsPlaceOf xs low first → low +ℤ pos w ≡ high → first + w < length xs → (at xs (first + w) ≤ℤ high) ↔ HasRun xs low high
run_test xs low high first w up place wide below = (
  (λ under.
      let over = place.after first (pos 0) (omega arith) (omega arith) in
      let last = squeezed_last low high (at xs first) (at xs (first + w)) w over (rises xs up first w below) under wide in
      subst (HasRun xs low) wide (run_from_last xs low first w up below over last)),
  (λ all. let last = (last_of_run xs low first w up place (subst (HasRun xs low) (sym wide) all)).1 in at_most (at xs (first + w)) low high w last wide),
)
  where
    squeezed_last : (low high a b : ℤ) (w : ℕ) → low ≤ℤ a → (a +ℤ pos w) ≤ℤ b → b ≤ℤ high → low +ℤ pos w ≡ high → b ≡ low +ℤ pos w
    squeezed_last low high a b w h k l m = omega (arith, ints)

    at_most : (b low high : ℤ) (w : ℕ) → b ≡ low +ℤ pos w → low +ℤ pos w ≡ high → b ≤ℤ high
    at_most b low high w e f = omega (arith, ints)

-- a list that ends before it has no such run
pub run_past_end : (xs : List ℤ) (low high : ℤ) (first w : ℕ) → IsAscending xs → IsPlaceOf xs low first → low +ℤ pos w ≡ high → length xs ≤ first + w → HasRun xs low high → ⊥
run_past_end xs low high first w up place wide over all = omega (arith, over, (last_of_run xs low first w up place (subst (HasRun xs low) (sym wide) all)).0)
