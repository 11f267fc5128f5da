-- Lists of places in rising order: the loop that looks at neighbours.
use Rattle.std.proofs.Common.{◌≡◌, ℕ, ◌+◌, ◌-◌, ◌<◌, ◌≤◌, List, length, get_or, sym, subst, inl, inr, arith, ℤ, pos, ◌<ℤ◌}
use Rattle.std.proofs.lemmas.Int.{ints}
use Rattle.std.proofs.lemmas.Bool.{cases_lt}
use Rattle.std.proofs.lemmas.List.{get_or_default}
use Rattle.fzn_domain.specs.Ascending.{IsAscending}

-- the first n are in rising order
abbrev pub Rises : List ℤ → ℕ → Type 0
Rises xs n = (i j : ℕ) → i < j → j < n → get_or xs i (pos 0) <ℤ get_or xs j (pos 0)

pub Rises-more : (xs : List ℤ) (n : ℕ) → 1 ≤ n → Rises xs n → get_or xs (n - 1) (pos 0) <ℤ get_or xs n (pos 0) → Rises xs (n + 1)
Rises-more xs n some rises last i j less below = elim (cases_lt j n) [
  | inl before ↦ rises i j less before
  | inr at ↦ let e : j ≡ n = omega arith in subst (λ k. get_or xs i (pos 0) <ℤ get_or xs k (pos 0)) (sym e) (elim (cases_lt i (n - 1)) [
    | inl earlier ↦ let step = rises i (n - 1) earlier (omega arith) in omega (arith, ints)
    | inr just ↦ let f : n - 1 ≡ i = omega arith in subst (λ k. get_or xs k (pos 0) <ℤ get_or xs n (pos 0)) f last
  ])
]

pub IsAscending-from_Rises : (xs : List ℤ) (n : ℕ) → length xs ≤ n → Rises xs n → IsAscending xs
IsAscending-from_Rises xs n all rises i j d less below =
    let first = get_or_default xs i d (pos 0) (omega arith) in
    let second = get_or_default xs j d (pos 0) below in
    let step = rises i j less (omega arith) in
    omega (arith, ints)
