-- From one value of a term to the next.
use Rattle.std.proofs.Common.{◌≡◌, ◌⊎◌, sym, subst, inl, inr, arith, ℤ, ◌≤ℤ◌, ◌<ℤ◌, false, List}
use Rattle.std.proofs.lemmas.Int.{ints}
use Rattle.std.specs.Ordering.{int_eq}
use Rattle.std.proofs.lemmas.Bool.{cases_Bool}
use Rattle.fzn_domain.specs.IntSet.{IntSet}
use Rattle.fzn_values.specs.declared.term.Term.{Term}
use Rattle.fzn_sets.specs.Terms.{MayBe}
use Rattle.fzn_terms.specs.Values.{IsNextValue}
use Rattle.fzn_terms.proofs.OrderLemmas.{equal_of}

less_of : (v k : ℤ) → v ≤ℤ k → int_eq v k ≡ false → v <ℤ k
less_of v k le h = grind (arith, ints)

more_of : (v k : ℤ) → v <ℤ k ⊎ (k ≤ℤ v)
more_of v k = grind (arith, ints)

module _ (P : ℤ → Type 0) (sets : List IntSet) (term : Term) (value : ℤ) (here : P value) (done : (v : ℤ) → MayBe sets term v → v <ℤ value → P v) where
  -- so far as the value itself
  up_to : (v : ℤ) → MayBe sets term v → v ≤ℤ value → P v
  up_to v may le = elim (cases_Bool (int_eq v value)) [
    | inl same ↦ subst P (sym (equal_of v value same)) here
    | inr apart ↦ done v may (less_of v value le apart)
  ]

  -- so far as the next value
  pub next_done : (next : ℤ) → IsNextValue sets term value next → (v : ℤ) → MayBe sets term v → v <ℤ next → P v
  next_done next is v may less = elim (more_of value v) [
    | inl above ↦ let first = is.first v may above in absurd (omega (arith, ints, first, less))
    | inr le ↦ up_to v may le
  ]

  -- there is none above it
  pub all_done : ((v : ℤ) → MayBe sets term v → v ≤ℤ value) → (v : ℤ) → MayBe sets term v → P v
  all_done last v may = up_to v may (last v may)
