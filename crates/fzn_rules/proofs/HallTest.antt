-- The test of an excess at 128 bits.
use Rattle.std.proofs.Common.{◌≡◌, ◌↔◌, IsTrue, List, arith, ℤ, pos, ◌+ℤ◌, ◌-ℤ◌, ◌≤ℤ◌, ◌<ℤ◌, int_lt}
use Rattle.std.specs.List.{count_by}
use Rattle.std.proofs.lemmas.Int.{ints}
use Rattle.fzn_domain.specs.IntSet.{IntSet}
use Rattle.fzn_values.specs.declared.term.Term.{Term}
use Rattle.fzn_rules.specs.Hall.{lies_within, HasExcess}

pub lt_is : (x y : ℤ) → IsTrue (int_lt x y) ↔ (x <ℤ y)
lt_is x y = ((λ h. grind (arith, ints, h)), (λ h. grind (arith, ints, h)))

pub excess_test : (sets : List IntSet) (low high : ℤ) (places : List Term) (numbers count : ℤ) → low ≤ℤ high → numbers ≡ (high -ℤ low) +ℤ pos 1 → count ≡ pos (count_by (lies_within sets low high) places) → IsTrue (int_lt numbers count) ↔ HasExcess sets low high places
excess_test sets low high places numbers count in_order numbers_are count_is =
    let test = lt_is ((high -ℤ low) +ℤ pos 1) (pos (count_by (lies_within sets low high) places)) in
    rw (numbers_are, count_is) ((λ h. record { in_order = in_order; excess = test.0 h }), (λ h. test.1 h.excess))
