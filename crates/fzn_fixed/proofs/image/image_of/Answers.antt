-- Each kind by its lemma.
use Rattle.std.proofs.Common.{◌≡◌, ◌↔◌, ◌-◌, List, length, take, drop, get_or, subst, arith, length-drop, ℤ, pos, Some}
use Rattle.std.proofs.lemmas.List.{take_all}
use Rattle.fzn_meaning.specs.Elements.{IsElement}
use Rattle.fzn_builtin_rules.specs.Choices.{inputs_of}
use Rattle.fzn_fixed.specs.Image.{Admits}
use Rattle.fzn_fixed.proofs.ImageLemmas.{arithmetic_is, absolute_is, extremum_is, element_is, any_member_is, xor_is, odd_is, same_then, switched_then}
use Rattle.fzn_fixed.proofs.image.image_of.Goals as goal

pub returns-in-Arithmetic : goal.returns-in-Arithmetic
unfolding inputs_of
returns-in-Arithmetic c = rw c.in-Arithmetic.is (arithmetic_is _ _ _ _ _ c.args.values.now (rw c.in-Arithmetic.is at c.requires.inputs) c.of_operation.ensures)

pub returns-in-IntAbs : goal.returns-in-IntAbs
unfolding inputs_of
returns-in-IntAbs c = rw c.in-IntAbs.is (absolute_is _ _ _ c.args.values.now (rw c.in-IntAbs.is at c.requires.inputs) c.of_absolute.ensures)

pub returns-in-Extremum : goal.returns-in-Extremum
returns-in-Extremum c = rw c.in-Extremum.is (extremum_is _ _ _ _ c.args.values.now c.of_entries.ensures)

pub returns-in-Element : goal.returns-in-Element
unfolding inputs_of
returns-in-Element c =
    let values = c.args.values.now in
    let rest : take (length values - 1) (drop 1 values) ≡ drop 1 values = take_all (length values - 1) (drop 1 values) (omega (arith, length-drop 1 values)) in
    rw c.in-Element.is
    (element_is c.of_index.result _ _ _ values (let h = rw c.in-Element.is at c.requires.inputs in omega arith)
    (subst (λ (xs : List ℤ). (r : ℤ) → IsElement (get_or values 0 (pos 0)) xs r ↔ Admits c.of_index.result (Some r)) rest c.of_index.ensures))

pub returns-in-SetIn : goal.returns-in-SetIn
unfolding inputs_of
returns-in-SetIn c = rw c.in-SetIn.is (any_member_is _ _ _ c.args.values.now _ _ (rw c.in-SetIn.is at c.requires.inputs) c.is_member.ensures c.switched_where.ensures)

pub returns-in-BoolXor : goal.returns-in-BoolXor
unfolding inputs_of
returns-in-BoolXor c = rw c.in-BoolXor.is (xor_is _ _ _ _ c.args.values.now (rw c.in-BoolXor.is at c.requires.inputs) (λ r. switched_then _ _ _ r c.is_one_of_two.ensures (c.one_where.ensures r)))

pub returns-in-ArrayBoolXor : goal.returns-in-ArrayBoolXor
returns-in-ArrayBoolXor c = rw c.in-ArrayBoolXor.is (odd_is _ _ c.args.values.now (same_then _ _ _ c.is_odd.ensures c.holds_where.ensures))
