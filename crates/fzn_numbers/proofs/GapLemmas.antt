-- The numbers of a stretch that are no members, member by member.
use Rattle.std.proofs.Common.{◌≡◌, ◌<◌, Bool, true, false, not, ◌&&◌, ℤ, pos, ◌+ℤ◌, ◌≤ℤ◌, ◌<ℤ◌, ◌^◌, ◌-◌, refl, sym, ap, ◌∙◌, inl, inr, arith, int_eq, int_lt}
use Rattle.std.specs.FinSet as set
use Rattle.std.proofs.lemmas.Int.{ints}
use Rattle.std.proofs.lemmas.Bool.{cases_Bool, true≢false}
use Rattle.std.proofs.lemmas.Bool.Decides.{Decides-int_eq}
use Rattle.fzn_numbers.specs.Ascending.{IsNextFrom}
use Rattle.fzn_numbers.specs.Bits.{CanBeFirst}
use Rattle.fzn_numbers.specs.IntSet.{IntSet, contains, width}
use Rattle.fzn_numbers.proofs.SetLemmas.{contains-remove}

-- the members below a number are gone, and no other number
abbrev pub AreGapsBelow : IntSet → IntSet → ℤ → ℤ → Type 0
AreGapsBelow gaps members from v = contains gaps v ≡ not (int_lt v from && contains members v)

pub gaps_start : (gaps members : IntSet) (from v : ℤ) → from ≤ℤ v → contains gaps v ≡ true → AreGapsBelow gaps members from v
gaps_start gaps members from v h there = there ∙ ap (λ (b : Bool). not (b && contains members v)) (sym (not_less from v h)) where
  not_less : (from v : ℤ) → from ≤ℤ v → int_lt v from ≡ false
  not_less from v h = grind (arith, ints)

is_out : (s : IntSet) (v : ℤ) → (contains s v ≡ true → ⊥) → contains s v ≡ false
is_out s v out = elim (cases_Bool (contains s v)) [
  | inl there ↦ absurd (out there)
  | inr there ↦ there
]

module _ (gaps members : IntSet) (from value v : ℤ) (next : IsNextFrom members from value) (so_far : AreGapsBelow gaps members from v) where
  pub gaps_next : AreGapsBelow (set.remove gaps value) members (value +ℤ pos 1) v
  gaps_next =
      contains-remove gaps value v
      ∙ ap (λ (b : Bool). not (int_eq v value) && b) so_far
      ∙ elim (cases_Bool (contains members v)) [
        | inl there ↦ ap (λ (b : Bool). not (int_eq v value) && not (int_lt v from && b)) there ∙ member from value v next.from_bound (next.first v there) ∙ ap (λ (b : Bool). not (int_lt v (value +ℤ pos 1) && b)) (sym there)
        | inr gone ↦ ap (λ (b : Bool). not (int_eq v value) && not (int_lt v from && b)) gone ∙ other (int_eq v value) (int_lt v from) (int_lt v (value +ℤ pos 1)) (apart gone) ∙ ap (λ (b : Bool). not (int_lt v (value +ℤ pos 1) && b)) (sym gone)
      ]
    where
      member : (from value v : ℤ) → from ≤ℤ value → (from ≤ℤ v → value ≤ℤ v) → (not (int_eq v value) && not (int_lt v from && true)) ≡ not (int_lt v (value +ℤ pos 1) && true)
      member from value v h first = grind (arith, ints)

      apart : contains members v ≡ false → int_eq v value ≡ true → ⊥
      apart gone same = true≢false (sym next.member ∙ ap (contains members) (sym ((Decides-int_eq v value).0 same)) ∙ gone)

      other : (same less upto : Bool) → (same ≡ true → ⊥) → (not same && not (less && false)) ≡ not (upto && false)
      other true less upto h = absurd (h refl)
      other false true true h = refl
      other false true false h = refl
      other false false true h = refl
      other false false false h = refl

pub gaps_end : (gaps members : IntSet) (from v : ℤ) → AreGapsBelow gaps members from v → (from ≤ℤ v → contains members v ≡ true → ⊥) → contains gaps v ≡ not (contains members v)
gaps_end gaps members from v so_far none = so_far ∙ elim (cases_Bool (int_lt v from)) [
  | inl below ↦ ap (λ (b : Bool). not (b && contains members v)) below
  | inr above ↦ ap (λ (b : Bool). not (b && contains members v)) above ∙ ap not (sym (is_out members v (none (at_least from v above))))
] where
  at_least : (from v : ℤ) → int_lt v from ≡ false → from ≤ℤ v
  at_least from v e = omega (arith, ints)

pub width_falls : (from value high : ℤ) → from ≤ℤ value → value ≤ℤ high → width (value +ℤ pos 1) high < width from high
width_falls from value high h l = grind (arith, ints)

-- one may be added to a number up to high
pub below_last : (low high value : ℤ) → CanBeFirst low → high <ℤ (low +ℤ pos 16384) → value ≤ℤ high → value <ℤ pos (2 ^ 63 - 1)
below_last low high value can h l = omega (arith, ints, can.behind)
