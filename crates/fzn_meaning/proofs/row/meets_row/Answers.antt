use Rattle.std.proofs.Common.{◌≡◌, ◌<◌, ◌≤◌, ◌+ℤ◌, List, length, get_or, sym, subst, Some, arith, to_z, of_z}
use Rattle.std.specs.Prelude.{IsSome}
use Rattle.std.specs.List.{All}
use Rattle.std.proofs.lemmas.Int.{ints}
use Rattle.std.proofs.lemmas.List.Elements.{All-more}
use Rattle.std.proofs.lemmas.List.{take_all}
use Rattle.fzn_meaning.specs.declared.row.Part.{Part}
use Rattle.fzn_meaning.specs.Separable.{weight_of, total_weight}
use Rattle.fzn_meaning.proofs.RowLemmas.{total_weight-none, total_weight-more, total-bounded, holds_test, not_barred, weighs_some, none_below}
use Rattle.fzn_meaning.proofs.row.meets_row.Goals as goal
use mir.Syntax.{w128}

pub loop-part-init : goal.loop-part-init
loop-part-init c = record {
  unbarred = λ k d below. absurd (none_below k below);
  so_far = sym (total_weight-none c.args.values.now);
  bounded = omega arith;
}

pub returns-in-None : goal.returns-in-None
returns-in-None c =
    let row = c.args.row.now in
    let part = c.part-item.result in
    let i = c.loop-part.part-index in
    let there = subst (λ (ps : List Part). part ≡ get_or ps i part) c.as_slice-part-items.ensures c.part-item.is in
    let inside : i < length row.parts = subst (λ (ps : List Part). i < length ps) c.as_slice-part-items.ensures c.loop-part-test.true in
    (λ no. absurd (cc), λ holds. absurd (not_barred c.args.values.now part (sym c.in-None.ensures.value) (subst (λ (p : Part). IsSome (weight_of c.args.values.now p)) (sym there) (holds.none_barred i part inside))))

pub loop-part-preserved : goal.loop-part-preserved
loop-part-preserved c =
    let row = c.args.row.now in
    let values = c.args.values.now in
    let part = c.part-item.result in
    let i = c.loop-part.part-index in
    let there = subst (λ (ps : List Part). part ≡ get_or ps i part) c.as_slice-part-items.ensures c.part-item.is in
    let inside : i < length row.parts = subst (λ (ps : List Part). i < length ps) c.as_slice-part-items.ensures c.loop-part-test.true in
    let weighs : weight_of values part ≡ Some c.in-Some.weight = sym c.in-Some.ensures.value in
    let bounded = c.in-Some.ensures.bounded in
    let small = c.loop-part.invariant.bounded in
    let few = c.requires.few in
    let is : to_z w128 (of_z w128 (to_z w128 c.loop-part.total-bits +ℤ to_z w128 (of_z w128 c.in-Some.weight))) ≡ to_z w128 c.loop-part.total-bits +ℤ c.in-Some.weight = omega (arith, ints) in
    record {
      unbarred = All-more (λ part. IsSome (weight_of values part)) row.parts i part inside c.loop-part.invariant.unbarred (subst (λ (p : Part). IsSome (weight_of values p)) there (weighs_some values part c.in-Some.weight weighs));
      so_far = total_weight-more values row.parts i part c.in-Some.weight (to_z w128 c.loop-part.total-bits) _ inside there weighs c.loop-part.invariant.so_far is;
      bounded = total-bounded i (to_z w128 c.loop-part.total-bits) c.in-Some.weight _ small bounded is;
    }

pub returns : goal.returns
returns c =
    let row = c.args.row.now in
    let values = c.args.values.now in
    let past : length row.parts ≤ c.loop-part.part-index = subst (λ (ps : List Part). length ps ≤ c.loop-part.part-index) c.as_slice-part-items.ensures c.loop-part-test.false in
    let total = subst (λ (ps : List Part). to_z w128 c.loop-part.total-bits ≡ total_weight values ps) (take_all c.loop-part.part-index row.parts past) c.loop-part.invariant.so_far in
    let unbarred = subst (λ (ps : List Part). All (λ part. IsSome (weight_of values part)) ps) (take_all c.loop-part.part-index row.parts past) c.loop-part.invariant.unbarred in
    holds_test row values (to_z w128 c.loop-part.total-bits) _ total (omega (arith, ints)) unbarred
