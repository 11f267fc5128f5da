-- The absolute values of the members of a set, in order.
use Rattle.std.proofs.Common.{◌≡◌, ◌∙◌, sym, ◌⊎◌, inl, inr, refl, arith, ℤ, pos, negsuc, ◌≤ℤ◌, ◌-ℤ◌, unsigned_abs, subst, ap, ap₂, to_z-of_z}
use Rattle.std.proofs.lemmas.Int.{ints, fits_signed_from_abs}
use Rattle.std.specs.Int.{int_min}
use Rattle.fzn_domain.specs.IntSet.{IntSet, IsNextAbove, NoneAbove, IsNextBelow, NoneBelow}
use Rattle.fzn_domain.specs.Limits.{IsInLimits}
use Rattle.fzn_builtin_rules.specs.Rows.{IsNextAbsolute, NoAbsoluteAbove}
use mir.Syntax.{w64}
use mir.Val.{to_z, of_z}

-- an absolute value is the number or its opposite
sides : (v : ℤ) → ((pos (unsigned_abs v) ≡ v) × (pos 0 ≤ℤ v)) ⊎ ((pos (unsigned_abs v) ≡ pos 0 -ℤ v) × (v ≤ℤ pos 0))
sides (pos n) = inl (refl, grind (arith, ints))
sides (negsuc n) = inr (grind (arith, ints), grind (arith, ints))

above_is : (v : ℤ) → pos 0 ≤ℤ v → pos (unsigned_abs v) ≡ v
above_is v h = elim (sides v) [ inl p ↦ p.0 | inr p ↦ omega (arith, ints, p.0, p.1) ]

below_is : (v w : ℤ) → v ≤ℤ pos 0 → w ≡ pos 0 -ℤ v → pos (unsigned_abs v) ≡ w
below_is v w h e = elim (sides v) [ inl p ↦ omega (arith, ints, p.0, p.1) | inr p ↦ omega (arith, ints, p.0) ]

module _ (s : IntSet) (a under : ℤ) (opposite : under ≡ pos 0 -ℤ a) (natural : pos 0 ≤ℤ a) where
  pub up_alone : (up : ℤ) → IsNextAbove s a up → NoneBelow s under → IsNextAbsolute s a up
  up_alone up above none = record {
    member = (up, above.member, above_is up (omega (arith, ints, above.greater)));
    greater = above.greater;
    first = λ other there more. elim (sides other) [
      | inl p ↦ let beyond = above.first other there (omega (arith, ints, p.0)) in omega (arith, ints, p.0)
      | inr p ↦ let inner = none other there in absurd (omega (arith, ints, p.0))
    ];
  }

  pub down_alone : (down to : ℤ) → to ≡ pos 0 -ℤ down → IsNextBelow s under down → NoneAbove s a → IsNextAbsolute s a to
  down_alone down to is below none = record {
    member = (down, below.member, below_is down to (omega (arith, ints, below.less)) is);
    greater = omega (arith, ints, below.less);
    first = λ other there more. elim (sides other) [
      | inl p ↦ let inner = none other there in absurd (omega (arith, ints, p.0))
      | inr p ↦ let beyond = below.last other there (omega (arith, ints, p.0)) in omega (arith, ints, p.0)
    ];
  }

  pub nearer : (up down to : ℤ) → to ≡ pos 0 -ℤ down → IsNextAbove s a up → IsNextBelow s under down → IsNextAbsolute s a (int_min up to)
  nearer up down to is above below = nearer_one (int_min up to) (min_is up to) (min_below up to) (min_below_other up to) where
    min_is : (x y : ℤ) → (int_min x y ≡ x) ⊎ (int_min x y ≡ y)
    min_is x y = grind (arith, ints)

    min_below : (x y : ℤ) → int_min x y ≤ℤ x
    min_below x y = grind (arith, ints)

    min_below_other : (x y : ℤ) → int_min x y ≤ℤ y
    min_below_other x y = grind (arith, ints)

    nearer_one : (near : ℤ) → (near ≡ up) ⊎ (near ≡ to) → near ≤ℤ up → near ≤ℤ to → IsNextAbsolute s a near
    nearer_one near which h k = record {
      member = elim which [
        | inl e ↦ (up, above.member, above_is up (omega (arith, ints, above.greater)) ∙ sym e)
        | inr e ↦ (down, below.member, below_is down to (omega (arith, ints, below.less)) is ∙ sym e)
      ];
      greater = elim which [
        | inl e ↦ omega (arith, ints, above.greater, e)
        | inr e ↦ omega (arith, ints, below.less, e)
      ];
      first = λ other there more. elim (sides other) [
        | inl p ↦ let beyond = above.first other there (omega (arith, ints, p.0)) in omega (arith, ints, p.0)
        | inr p ↦ let beyond = below.last other there (omega (arith, ints, p.0)) in omega (arith, ints, p.0)
      ];
    }

  pub none_beyond : NoneAbove s a → NoneBelow s under → NoAbsoluteAbove s a
  none_beyond above below other there = elim (sides other) [
    | inl p ↦ let inner = above other there in omega (arith, ints, p.0)
    | inr p ↦ let inner = below other there in omega (arith, ints, p.0)
  ]

-- what a word of 64 bits holds of a number of a domain, and of its opposite
pub held : (v : ℤ) → IsInLimits v → to_z w64 (of_z w64 v) ≡ v
held v h = to_z-of_z (fits_signed_from_abs w64 v (grind (arith, ints)))

pub held_opposite : (v : ℤ) → IsInLimits v → to_z w64 (of_z w64 (pos 0 -ℤ to_z w64 (of_z w64 v))) ≡ pos 0 -ℤ v
held_opposite v h = subst (λ (x : ℤ). to_z w64 (of_z w64 (pos 0 -ℤ x)) ≡ pos 0 -ℤ v) (sym (held v h)) (held (pos 0 -ℤ v) (grind (arith, ints)))

min_inside : (x y : ℤ) → IsInLimits x → IsInLimits y → IsInLimits (int_min x y)
min_inside x y h k = grind (arith, ints)

pub nearer_is : (up down near : ℤ) → IsInLimits up → IsInLimits down → near ≡ int_min (to_z w64 (of_z w64 up)) (to_z w64 (of_z w64 (pos 0 -ℤ to_z w64 (of_z w64 down)))) → (to_z w64 (of_z w64 near) ≡ int_min up (pos 0 -ℤ down)) × IsInLimits (to_z w64 (of_z w64 near))
nearer_is up down near h k e =
    let is = e ∙ ap₂ int_min (held up h) (held_opposite down k) in
    let inside = min_inside up (pos 0 -ℤ down) h (grind (arith, ints)) in
    let same = ap (λ (x : ℤ). to_z w64 (of_z w64 x)) is ∙ held (int_min up (pos 0 -ℤ down)) inside in
    (same, subst IsInLimits (sym same) inside)
