use Rattle.std.proofs.Common.{arith, ◌≡◌, ◌*◌, ◌<◌, ◌≤◌, ◌+ℤ◌, List, length, get_or, refl, sym, subst, inl, unsigned_abs, to_z, of_z}
use Rattle.std.proofs.lemmas.Int.{ints}
use Rattle.std.proofs.lemmas.List.{take_all}
use mir.Syntax.{w128}
use Rattle.fzn_meaning.specs.declared.row.Part.{Part}
use Rattle.fzn_rules.specs.Separable.{IsLeastTotal}
use Rattle.fzn_rules.proofs.SeparableSound.{least_total-more, above_test, bounded_more}
use Rattle.fzn_rules.proofs.separable.is_separable_met.Goals as goal

pub returns-in-None : goal.returns-in-None
returns-in-None c =
    let row = c.args.row.now in
    let sets = c.args.sets.now.present in
    let part = c.part-item.result in
    let i = c.loop-part.part-index in
    let there = subst (λ (ps : List Part). part ≡ get_or ps i part) c.as_slice-part-items.ensures c.part-item.is in
    let inside : i < length row.parts = subst (λ (ps : List Part). i < length ps) c.as_slice-part-items.ensures c.loop-part-test.true in
    (λ _. inl (i, part, inside, sym there, c.in-None.ensures.least), λ _. refl)

pub loop-part-preserved : goal.loop-part-preserved
loop-part-preserved c =
    let row = c.args.row.now in
    let sets = c.args.sets.now.present in
    let part = c.part-item.result in
    let i = c.loop-part.part-index in
    let there = subst (λ (ps : List Part). part ≡ get_or ps i part) c.as_slice-part-items.ensures c.part-item.is in
    let inside : i < length row.parts = subst (λ (ps : List Part). i < length ps) c.as_slice-part-items.ensures c.loop-part-test.true in
    let few = c.requires.row.few in
    let bounded = c.in-Some.ensures.bounded in
    let so_far : unsigned_abs (to_z w128 c.loop-part.sum-bits) ≤ i * 9223372037000000000000000000000 = c.loop-part.invariant.bounded in
    let is : to_z w128 (of_z w128 (to_z w128 c.loop-part.sum-bits +ℤ to_z w128 (of_z w128 c.in-Some.least))) ≡ to_z w128 c.loop-part.sum-bits +ℤ c.in-Some.least = omega (arith, ints) in
    record {
      so_far = least_total-more sets row.parts i part (to_z w128 c.loop-part.sum-bits) c.in-Some.least _ inside there c.loop-part.invariant.so_far c.in-Some.ensures.least is;
      bounded = bounded_more i (to_z w128 c.loop-part.sum-bits) c.in-Some.least _ so_far bounded is;
    }

pub returns : goal.returns
returns c =
    let row = c.args.row.now in
    let sets = c.args.sets.now.present in
    let past : length row.parts ≤ c.loop-part.part-index = subst (λ (ps : List Part). length ps ≤ c.loop-part.part-index) c.as_slice-part-items.ensures c.loop-part-test.false in
    let total = subst (λ (ps : List Part). IsLeastTotal sets ps (to_z w128 c.loop-part.sum-bits)) (take_all c.loop-part.part-index row.parts past) c.loop-part.invariant.so_far in
    above_test sets row _ (to_z w128 c.loop-part.sum-bits) (omega (arith, ints)) total
