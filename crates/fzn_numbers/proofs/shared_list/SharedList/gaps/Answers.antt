use Rattle.std.proofs.Common.{◌≡◌, ℤ, pos, ◌+ℤ◌, ◌≤ℤ◌, ◌<ℤ◌, ◌<◌, sym, ap, ap₂, subst₂, ◌∙◌, arith, rules, w64, to_z, of_z, to_z-of_z, FitsSigned}
use Rattle.std.proofs.lemmas.Int.{ints}
use Rattle.std.specs.FinSet as set
use Rattle.fzn_numbers.specs.Bits.{whole_words}
use Rattle.fzn_numbers.specs.IntSet.{IntSet, contains, numbers_from, width}
use Rattle.fzn_numbers.proofs.AscendingLemmas.{to_next}
use Rattle.fzn_numbers.proofs.BitSetLemmas.{in_whole_words}
use Rattle.fzn_numbers.proofs.GapLemmas.{gaps_start, gaps_next, gaps_end, below_last, width_falls}
use Rattle.fzn_numbers.proofs.shared_list.SharedList.gaps.Goals as goal

pub loop-value-init : goal.loop-value-init
loop-value-init c =
    let low = to_z-of_z c.ranges.low in
    let high = to_z-of_z c.ranges.high in
    rw (low, high) (record {
      above = omega (arith, ints);
      so_far = λ v h l. gaps_start c.in_ok-gaps.gaps c.args.self.now c.args.low v h
          (ap (λ (s : IntSet). contains s v) c.in_ok-gaps.ensures
          ∙ ap₂ (λ (a b : ℤ). contains (numbers_from a (whole_words (width a b))) v) low high
          ∙ in_whole_words c.args.low c.args.high v h l);
    })

pub returns-then-value-high : goal.returns-then-value-high
returns-then-value-high c v h l =
    let low = to_z-of_z c.ranges.low in
    let high = to_z-of_z c.ranges.high in
    let fits : FitsSigned w64 c.in-Some.value = search rules in
    let value = to_z-of_z fits in
    let over : c.args.high <ℤ c.in-Some.value = omega (arith, ints) in
    let kept = c.loop-value.invariant.so_far v (omega (arith, ints)) (omega (arith, ints)) in
    gaps_end c.loop-value.gaps c.args.self.now (to_z w64 c.loop-value.from-bits) v kept
    (λ from there. let first = c.in-Some.ensures.found.first v there from in omega (arith, ints))

pub loop-value-smaller : goal.loop-value-smaller
loop-value-smaller c =
    let high = to_z-of_z c.ranges.high in
    let fits : FitsSigned w64 c.in-Some.value = search rules in
    let value = to_z-of_z fits in
    let under : c.in-Some.value ≤ℤ c.args.high = omega (arith, ints) in
    let next : to_z w64 (of_z w64 (to_z w64 (of_z w64 c.in-Some.value) +ℤ pos 1)) ≡ c.in-Some.value +ℤ pos 1 = to_next c.in-Some.value fits (below_last c.args.low c.args.high c.in-Some.value c.requires.low c.requires.narrow under) in
    subst₂ (λ (a b : ℤ). width a b < width (to_z w64 c.loop-value.from-bits) b) (sym next) (sym high)
    (width_falls (to_z w64 c.loop-value.from-bits) c.in-Some.value c.args.high c.in-Some.ensures.found.from_bound under)

pub loop-value-preserved : goal.loop-value-preserved
loop-value-preserved c =
    let low = to_z-of_z c.ranges.low in
    let high = to_z-of_z c.ranges.high in
    let fits : FitsSigned w64 c.in-Some.value = search rules in
    let value = to_z-of_z fits in
    let under : c.in-Some.value ≤ℤ c.args.high = omega (arith, ints) in
    let found = c.in-Some.ensures.found in
    let next : to_z w64 (of_z w64 (to_z w64 (of_z w64 c.in-Some.value) +ℤ pos 1)) ≡ c.in-Some.value +ℤ pos 1 = to_next c.in-Some.value fits (below_last c.args.low c.args.high c.in-Some.value c.requires.low c.requires.narrow under) in
    let removed : c.remove.new.self ≡ set.remove c.loop-value.gaps c.in-Some.value = c.in_ok-remove.ensures.ok ∙ ap (set.remove c.loop-value.gaps) value in
    rw (low, high, next) (record {
      above = omega (arith, ints, c.loop-value.invariant.above, found.from_bound, low);
      so_far = λ v h l.
          ap (λ (s : IntSet). contains s v) removed
          ∙ gaps_next c.loop-value.gaps c.args.self.now (to_z w64 c.loop-value.from-bits) c.in-Some.value v found (c.loop-value.invariant.so_far v (omega (arith, ints)) (omega (arith, ints)));
    })
