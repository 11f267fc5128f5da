use Rattle.std.proofs.Common.{◌≡◌, ◌<◌, ℤ, pos, ◌+ℤ◌, ◌<ℤ◌, ◌≤ℤ◌, [], ◌∷◌, true, arith, ap, sym, subst₂, ◌∙◌, to_z-of_z}
use Rattle.fzn_numbers.specs.Bits.{has_bit}
use Rattle.fzn_numbers.specs.IntSet.{contains, IsRunEnd}
use Rattle.fzn_numbers.proofs.NumberLemmas.{real}
use Rattle.fzn_numbers.proofs.BitSetLemmas.{bit_of, from_the_first, near_first, place_within, run_found, gap_behind, end_at}
use Rattle.fzn_numbers.proofs.word_set.WordSet.run_end.Goals as goal

pub offset-from-requires-clause-from_first : goal.offset-from-requires-clause-from_first
offset-from-requires-clause-from_first c =
    subst₂ (λ (f v : ℤ). f ≤ℤ v) (sym (real _ c.self.invariant.can_be_first)) (sym (to_z-of_z c.ranges.value))
    (from_the_first c.self.inside.first (c.self.inside.word ∷ []) c.args.self.now c.self.view_is c.args.value c.requires)

pub offset-from-requires-clause-near : goal.offset-from-requires-clause-near
offset-from-requires-clause-near c =
    subst₂ (λ (f v : ℤ). v <ℤ (f +ℤ pos 16384)) (sym (real _ c.self.invariant.can_be_first)) (sym (to_z-of_z c.ranges.value))
    (near_first c.self.inside.first (c.self.inside.word ∷ []) c.args.self.now c.self.view_is c.args.value c.requires c.self.invariant.few)

pub next_gap-gap-requires : goal.next_gap-gap-requires
next_gap-gap-requires c =
    let at : c.args.value ≡ c.self.inside.first +ℤ pos c.offset-from.result =
    sym (to_z-of_z c.ranges.value) ∙ c.offset-from.ensures ∙ ap (λ (f : ℤ). f +ℤ pos c.offset-from.result) (real _ c.self.invariant.can_be_first) in
    place_within c.self.inside.first (c.self.inside.word ∷ []) c.args.self.now c.self.view_is c.args.value c.requires c.offset-from.result at

pub returns : goal.returns
returns c =
    let first = c.self.inside.first in
    let from = c.offset-from.result in
    let p = c.next_gap-gap.result in
    let at : c.args.value ≡ first +ℤ pos from =
    sym (to_z-of_z c.ranges.value) ∙ c.offset-from.ensures ∙ ap (λ (f : ℤ). f +ℤ pos from) (real _ c.self.invariant.can_be_first) in
    let place : from < 64 = place_within first (c.self.inside.word ∷ []) c.args.self.now c.self.view_is c.args.value c.requires from at in
    let gap = c.next_gap-gap.ensures in
    let on : has_bit (c.self.inside.word ∷ []) from ≡ true = sym (bit_of first (c.self.inside.word ∷ []) c.args.self.now c.self.view_is from place) ∙ ap (λ (v : ℤ). contains c.args.self.now v) (sym at) ∙ c.requires in
    subst₂ (λ (v e : ℤ). IsRunEnd c.args.self.now v e) (sym at) (sym (end_at first p c.self.invariant.can_be_first (omega (arith, gap.in_words))))
    (run_found first (c.self.inside.word ∷ []) c.args.self.now c.self.view_is from p gap (gap_behind (c.self.inside.word ∷ []) from p gap place on))
