use Rattle.std.proofs.Common.{◌≡◌, ◌↔◌, IsTrue, ℕ, ◌+◌, ℤ, pos, length, get_or, refl, subst, arith}
use Rattle.std.proofs.lemmas.Int.{ints}
use Rattle.std.proofs.lemmas.Bool.{false≢true}
use Rattle.fzn_values.specs.Entries.{IsIndex}
use Rattle.fzn_meaning.specs.Elements.{IsElement}
use Rattle.fzn_sets.specs.Terms.{MayBe}
use Rattle.fzn_builtin_rules.specs.Numbered.{value_in, rest_in, choice_at}
use Rattle.fzn_builtin_rules.proofs.ChosenLemmas.{length-choice_at}
use Rattle.fzn_builtin_rules.proofs.OutcomeLemmas.{one_result, element_is}
use Rattle.fzn_builtin_rules.proofs.outcome.element_fails.Goals as goal
use mir.Syntax.{w64}
use mir.Val.{to_z, of_z}

-- the value of the index is none
pub returns-then-not-is_index : goal.returns-then-not-is_index
returns-then-not-is_index c =
    let sets = c.args.sets.now.present in
    let rest = rest_in sets c.args.index c.args.number in (
      λ yes value may is.
          let low = is.0.0 in
          let high = is.0.1 in
          let count = length-choice_at sets c.args.entries.now rest in
          false≢true (c.if-not-is_index.ensures.1 (omega (arith, ints, c.value_in-place.ensures.value), omega (arith, ints, c.value_in-place.ensures.value))),
      λ none. refl,
    )

pub returns : goal.returns
returns c =
    let sets = c.args.sets.now.present in
    let rest = rest_in sets c.args.index c.args.number in
    let xs = choice_at sets c.args.entries.now rest in
    let i = value_in sets c.args.index c.args.number in
    let count = length-choice_at sets c.args.entries.now rest in
    let index = c.if-not-is_index.ensures.0 refl in
    let at : IsIndex (length xs) i = (omega (arith, ints, index.0, c.value_in-place.ensures.value), omega (arith, ints, index.1, c.value_in-place.ensures.value)) in
    let place : pos (c.place_of.result + 1) ≡ i = omega (arith, ints, c.place_of.ensures, c.value_in-place.ensures.value) in
    let entry : c.entry_in.result ≡ get_or xs c.place_of.result (pos 0) = subst (λ (n : ℕ). c.entry_in.result ≡ get_or (choice_at sets c.args.entries.now n) c.place_of.result (pos 0)) c.rest_in-rest.ensures c.entry_in.ensures.value in
    let passed : to_z w64 (of_z w64 c.entry_in.result) ≡ c.entry_in.result = omega (arith, ints) in
    one_result sets c.args.of (IsElement i xs) c.entry_in.result c.may_be.result (element_is xs i c.entry_in.result c.place_of.result at place entry)
    (subst (λ (v : ℤ). IsTrue c.may_be.result ↔ MayBe sets c.args.of v) passed c.may_be.ensures)
