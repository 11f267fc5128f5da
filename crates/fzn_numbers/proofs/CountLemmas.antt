-- The members of a set below a number and up to it, and how many they are.
use Rattle.std.proofs.Common.{◌≡◌, ◌+◌, true, false, ◌||◌, ℤ, pos, ◌+ℤ◌, ◌≤ℤ◌, ◌<ℤ◌, sym, ap, ◌∙◌, inl, inr, arith, int_le, int_lt, int_eq}
use Rattle.std.specs.FinSet as set
use Rattle.std.proofs.lemmas.Int.{ints}
use Rattle.std.proofs.lemmas.Bool.{cases_Bool, true≢false}
use Rattle.std.proofs.lemmas.Bool.Decides.{Decides-int_eq}
use Rattle.fzn_numbers.specs.IntSet.{IntSet, contains, size, below}
use Rattle.fzn_numbers.proofs.SetLemmas.{same_by_members, retained, contains_retained, size-insert, contains-insert}
use Rattle.fzn_numbers.proofs.NumberLemmas.{lt_test, test_lt, le_test, test_le}

-- the members up to a number
abbrev pub upto : IntSet → ℤ → IntSet
upto s v = set.retain s (λ w. int_le w v)

pub in_below : (s : IntSet) (v w : ℤ) → contains s w ≡ true → w <ℤ v → contains (below s v) w ≡ true
unfolding below
in_below s v w there less = contains_retained s (λ x. int_lt x v) w there (lt_test w v less)

pub of_below : (s : IntSet) (v w : ℤ) → contains (below s v) w ≡ true → (contains s w ≡ true) × (w <ℤ v)
unfolding below
of_below s v w h = let r = retained s (λ x. int_lt x v) w h in (r.0, test_lt w v r.1)

pub in_upto : (s : IntSet) (v w : ℤ) → contains s w ≡ true → w ≤ℤ v → contains (upto s v) w ≡ true
in_upto s v w there le = contains_retained s (λ x. int_le x v) w there (le_test w v le)

pub of_upto : (s : IntSet) (v w : ℤ) → contains (upto s v) w ≡ true → (contains s w ≡ true) × (w ≤ℤ v)
of_upto s v w h = let r = retained s (λ x. int_le x v) w h in (r.0, test_le w v r.1)

pub below_next : (s : IntSet) (v : ℤ) → below s (v +ℤ pos 1) ≡ upto s v
below_next s v = same_by_members _ _
    (λ x h. let r = of_below s (v +ℤ pos 1) x h in in_upto s v x r.0 (back x v r.1))
    (λ x h. let r = of_upto s v x h in in_below s (v +ℤ pos 1) x r.0 (on x v r.1)) where
      back : (x v : ℤ) → x <ℤ (v +ℤ pos 1) → x ≤ℤ v
      back x v h = omega (arith, ints)

      on : (x v : ℤ) → x ≤ℤ v → x <ℤ (v +ℤ pos 1)
      on x v h = omega (arith, ints)

not_below_itself : (s : IntSet) (v : ℤ) → contains (below s v) v ≡ false
not_below_itself s v = elim (cases_Bool (contains (below s v) v)) [
  | inr out ↦ out
  | inl there ↦ absurd (let r = of_below s v v there in itself v r.1)
] where
  itself : (v : ℤ) → v <ℤ v → ⊥
  itself v h = omega (arith, ints)

pub upto_member : (s : IntSet) (v : ℤ) → contains s v ≡ true → size (upto s v) ≡ size (below s v) + 1
upto_member s v there = ap size (same_by_members (upto s v) (set.insert (below s v) v)
    (λ x h. let r = of_upto s v x h in contains-insert (below s v) v x ∙ either x r.0 r.1)
    (λ x h. elim (cases_Bool (int_eq x v)) [
      | inl e ↦ let same : x ≡ v = (Decides-int_eq x v).0 e in in_upto s v x (ap (contains s) same ∙ there) (omega (arith, ints))
      | inr e ↦ let r = of_below s v x (rest x (sym (contains-insert (below s v) v x) ∙ h) e) in in_upto s v x r.0 (lower x r.1)
    ])) ∙ size-insert (below s v) v (not_below_itself s v) where
      either : (x : ℤ) → contains s x ≡ true → x ≤ℤ v → (int_eq x v || contains (below s v) x) ≡ true
      either x h le = elim (cases_Bool (int_eq x v)) [
        | inl e ↦ ap (λ b. b || contains (below s v) x) e
        | inr e ↦ ap (λ b. b || contains (below s v) x) e ∙ in_below s v x h (strict x le e)
      ] where
        strict : (x : ℤ) → x ≤ℤ v → int_eq x v ≡ false → x <ℤ v
        strict x le e = grind (arith, ints)

      rest : (x : ℤ) → (int_eq x v || contains (below s v) x) ≡ true → int_eq x v ≡ false → contains (below s v) x ≡ true
      rest x h e = sym (ap (λ b. b || contains (below s v) x) e) ∙ h

      lower : (x : ℤ) → x <ℤ v → x ≤ℤ v
      lower x h = omega (arith, ints)

pub upto_other : (s : IntSet) (v : ℤ) → contains s v ≡ false → upto s v ≡ below s v
upto_other s v absent = same_by_members _ _
    (λ x h. let r = of_upto s v x h in in_below s v x r.0 (strict x r.0 r.1))
    (λ x h. let r = of_below s v x h in in_upto s v x r.0 (lower x r.1)) where
      differ : (x : ℤ) → contains s x ≡ true → int_eq x v ≡ false
      differ x there = elim (cases_Bool (int_eq x v)) [
        | inr e ↦ e
        | inl e ↦ absurd (true≢false (sym there ∙ ap (contains s) ((Decides-int_eq x v).0 e) ∙ absent))
      ]

      strict : (x : ℤ) → contains s x ≡ true → x ≤ℤ v → x <ℤ v
      strict x there le = let e = differ x there in grind (arith, ints)

      lower : (x : ℤ) → x <ℤ v → x ≤ℤ v
      lower x h = omega (arith, ints)
