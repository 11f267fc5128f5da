-- Walks over the members of a set, and sets without gaps.
use Rattle.std.proofs.Common.{◌≡◌, ◌↔◌, ◌<◌, ◌≤◌, true, ◌∙◌, inl, inr, arith, ℕ, ℤ, pos, ◌<ℤ◌, ◌≤ℤ◌, ◌-ℤ◌, int_le, ◌&&◌}
use Rattle.std.proofs.lemmas.Int.{ints}
use Rattle.std.proofs.lemmas.Bool.{cases_Bool}
use Rattle.fzn_domain.specs.IntSet.{IntSet, contains, size, least, greatest, width, range}
use Rattle.fzn_domain.proofs.SetLemmas.{least_le, le_greatest, contains-least, contains-greatest, size_within, size_below, contains-range, size-range, member_of_size, width_falls}
use Rattle.fzn_builtin_rules.specs.Rows.{IsPartOf}

-- the measure of a walk up the members
pub walk_falls : (s : IntSet) (v next : ℤ) → contains s next ≡ true → v <ℤ next → width next (greatest s) < width v (greatest s)
walk_falls s v next member greater = width_falls v next (greatest s) greater (le_greatest s next member)

between : (low high v : ℤ) → low ≤ℤ v → v ≤ℤ high → (int_le low v && int_le v high) ≡ true
between low high v above below = grind (arith, ints)

few : (low high : ℤ) (n : ℕ) → (high -ℤ low) <ℤ pos n → low ≤ℤ high → width low high ≤ n
few low high n h order = grind (arith, ints)

-- a set with as many members as numbers between its ends has each of them
pub no_gap : (s : IntSet) → (greatest s -ℤ least s) <ℤ pos (size s) → (v : ℤ) → least s ≤ℤ v → v ≤ℤ greatest s → contains s v ≡ true
no_gap s many v above below = elim (cases_Bool (contains s v)) [
  | inl there ↦ there
  | inr gone ↦
      let inside = λ (w : ℤ) (m : contains s w ≡ true). contains-range (least s) (greatest s) w ∙ between (least s) (greatest s) w (least_le s w m) (le_greatest s w m) in
      let here = contains-range (least s) (greatest s) v ∙ between (least s) (greatest s) v above below in
      let fewer = size_below s (range (least s) (greatest s)) v inside here gone in
      absurd (omega (arith, ints, size-range (least s) (greatest s), few (least s) (greatest s) (size s) many (omega (arith, ints))))
]

-- a part has no more members
pub part_is_smaller : (s t : IntSet) → size t < size s → IsPartOf s t → ⊥
part_is_smaller s t fewer part = absurd (omega (arith, size_within s t part))

-- the parts of a set without a gap
pub part_of_no_gap : (s t : IntSet) → 0 < size s → ((v : ℤ) → least t ≤ℤ v → v ≤ℤ greatest t → contains t v ≡ true) → ((least t ≤ℤ least s) × (greatest s ≤ℤ greatest t)) ↔ IsPartOf s t
part_of_no_gap s t some full =
    let member = member_of_size s some in
    let low = contains-least s member.0 member.1 in
    let high = contains-greatest s member.0 member.1 in (
      λ ends v there. full v (omega (arith, ints, least_le s v there)) (omega (arith, ints, le_greatest s v there)),
      λ part. (least_le t (least s) (part (least s) low), le_greatest t (greatest s) (part (greatest s) high)),
    )
