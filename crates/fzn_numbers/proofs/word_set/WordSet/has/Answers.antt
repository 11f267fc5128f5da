use Rattle.std.proofs.Common.{◌≡◌, ◌<ℤ◌, ◌≤ℤ◌, ℤ, pos, ◌+ℤ◌, [], ◌∷◌, arith, sym, ap, ◌∙◌, to_z-of_z}
use Rattle.std.proofs.lemmas.Int.{ints}
use Rattle.fzn_numbers.specs.IntSet.{contains}
use Rattle.fzn_numbers.proofs.NumberLemmas.{real}
use Rattle.fzn_numbers.proofs.BitSetLemmas.{none_before, none_behind, bit_of}
use Rattle.fzn_numbers.proofs.WordLemmas.{near_place, place_behind}
use Rattle.fzn_numbers.proofs.word_set.WordSet.has.Goals as goal
use Rattle.fzn_numbers.proofs.word_set.WordSet.has.Goals.{then-self-value, else-self-value}

pub returns-then-value-self : goal.returns-then-value-self
returns-then-value-self c =
    let word = c.self.inside.word in
    let first = real _ c.self.invariant.can_be_first in
    let at : c.args.value ≡ c.self.inside.first +ℤ pos c.offset.result =
    sym (to_z-of_z c.ranges.value) ∙ c.offset.ensures ∙ ap (λ (f : ℤ). f +ℤ pos c.offset.result) first in
    let near : c.args.value <ℤ (c.self.inside.first +ℤ pos 64) = elim c.if-self-value.branch [
      | then-self-value w ↦ let passed = sym w.value-is ∙ c.if-value-self.true in omega (arith, ints, c.self.invariant.can_be_first.before, c.self.invariant.can_be_first.behind)
      | else-self-value w ↦ let passed = sym w.value-is ∙ c.if-value-self.true in absurd (omega (arith, ints, w.if-self-value.false))
    ] in
    c.is_set.ensures ∙ sym (ap (contains c.args.self.now) at ∙ bit_of c.self.inside.first (word ∷ []) c.args.self.now c.self.view_is c.offset.result (near_place c.self.inside.first c.args.value c.offset.result at near))

pub returns-else-value-self : goal.returns-else-value-self
returns-else-value-self c =
    let word = c.self.inside.word in
    let first = real _ c.self.invariant.can_be_first in
    let value = to_z-of_z c.ranges.value in
    elim c.if-self-value.branch [
      | then-self-value w ↦
          let failed = sym w.value-is ∙ c.if-value-self.false in
          let over : (c.self.inside.first +ℤ pos 64) ≤ℤ c.args.value = omega (arith, ints, c.self.invariant.can_be_first.before, c.self.invariant.can_be_first.behind) in
          c.if-value-self.false ∙ sym (none_behind c.self.inside.first (word ∷ []) c.args.self.now c.self.view_is c.args.value 64 (place_behind c.self.inside.first c.args.value over) (omega arith))
      | else-self-value w ↦
          let under : c.args.value <ℤ c.self.inside.first = omega (arith, ints, w.if-self-value.false) in
          c.if-value-self.false ∙ sym (none_before c.self.inside.first (word ∷ []) c.args.self.now c.self.view_is c.args.value under)
    ]
