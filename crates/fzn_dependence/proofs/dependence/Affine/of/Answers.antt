use Rattle.std.proofs.Common.{arith, ◌≡◌, ◌<◌, ◌≤◌, ◌+◌, ◌*◌, length, get_or, unsigned_abs, nat_eq, true, false, pos, ◌+ℤ◌, ◌*ℤ◌, w64, to_z, of_z, sym, ◌∙◌, subst}
use Rattle.std.proofs.lemmas.Int.{ints}
use Rattle.std.proofs.lemmas.Bool.Decides.{nat_tests}
use mir.Syntax.{w128}
use Rattle.fzn_values.specs.declared.term.Term.{Term}
use Rattle.fzn_values.specs.declared.term.Term.TheVariants.{Constant}
use Rattle.fzn_values.specs.declared.term.Place.{Place}
use Rattle.fzn_values.specs.Term.{number_in}
use Rattle.fzn_builtin_rules.specs.Borrowed.{places_in}
use Rattle.fzn_dependence.specs.Decided.{HasSmallNumbers}
use Rattle.fzn_dependence.proofs.DecidedLemmas.{constant-more, coefficient-more, besides-more, whole-sum, whole-besides}
use Rattle.fzn_dependence.proofs.dependence.Affine.of.Goals as goal
use Rattle.fzn_dependence.proofs.dependence.Affine.of.Goals.{in-Constant, in-Variable, in-Variable-2}

pub loop-i-preserved : goal.loop-i-preserved
loop-i-preserved c =
    let var = c.args.var in
    let places = places_in c.args.places.now in
    let i = c.loop-i.i in
    let d : Place = record { coefficient = pos 0; term = Constant (pos 0) } in
    let inside : i < length places = omega arith in
    let few = c.requires.few in
    let place = c.place-place.result in
    let here : place ≡ get_or places i d = c.place-place.ensures in
    let small : HasSmallNumbers place = subst HasSmallNumbers (sym here) (c.requires.places i d inside) in
    let of_small : unsigned_abs place.coefficient ≤ 1000000000 = small.0 in
    let of_is : to_z w64 (of_z w64 place.coefficient) ≡ place.coefficient = omega (arith, ints) in
    let rest = to_z w128 c.loop-i.rest-bits in
    let coefficient = to_z w128 c.loop-i.coefficient-bits in
    let besides = to_z w128 c.loop-i.besides-bits in
    let rest' = to_z w128 c.match-place.rest-bits in
    let coefficient' = to_z w128 c.match-place.coefficient-bits in
    let besides' = to_z w128 c.match-place.besides-bits in
    let before = c.loop-i.invariant.so_far in
    let rest_small : unsigned_abs rest ≤ i * 10000000000000000000000000000 = c.loop-i.invariant.rest_bounded in
    let coefficient_small : unsigned_abs coefficient ≤ i * 1000000000 = c.loop-i.invariant.coefficient_bounded in
    let besides_small : unsigned_abs besides ≤ i * 1000000000 = c.loop-i.invariant.besides_bounded in
    elim c.match-place.branch [
      | in-Constant w ↦
          let k = w.in-Constant.k in
          let k_small : unsigned_abs k ≤ 1000000000 = subst (λ (t : Term). unsigned_abs (number_in t) ≤ 1000000000) w.in-Constant.is small.1 in
          let k_is : to_z w64 (of_z w64 k) ≡ k = omega (arith, ints) in
          let sum = w.plus_product-rest.result in
          let sum_is : sum ≡ rest +ℤ place.coefficient *ℤ k = cc (w.plus_product-rest.ensures.value, of_is, k_is) in
          let bound = w.plus_product-rest.ensures.bound in
          let sum_small : unsigned_abs sum ≤ (i + 1) * 10000000000000000000000000000 = omega (arith, ints) in
          let new : rest' ≡ sum = omega (arith, ints) in
          let same_coefficient : coefficient' ≡ coefficient = omega (arith, ints) in
          let same_besides : besides' ≡ besides = omega (arith, ints) in
          record {
            so_far = constant-more var rest coefficient besides places i d place inside here before rest' coefficient' besides' k w.in-Constant.is (new ∙ sum_is) same_coefficient same_besides;
            rest_bounded = omega (arith, ints);
            coefficient_bounded = omega (arith, ints);
            besides_bounded = omega (arith, ints);
          }
      | in-Variable w ↦
          let v = w.in-Variable.v in
          let test : nat_eq v.0 var.0 ≡ true = let t = w.if-v-var.true in grind (arith, nat_tests) in
          let same_rest : rest' ≡ rest = omega (arith, ints) in
          let new : coefficient' ≡ coefficient +ℤ place.coefficient = omega (arith, ints) in
          let same_besides : besides' ≡ besides = omega (arith, ints) in
          record {
            so_far = coefficient-more var rest coefficient besides places i d place inside here before rest' coefficient' besides' v w.in-Variable.is same_rest test new same_besides;
            rest_bounded = omega (arith, ints);
            coefficient_bounded = omega (arith, ints);
            besides_bounded = omega (arith, ints);
          }
      | in-Variable-2 w ↦
          let v = w.in-Variable.v in
          let test : nat_eq v.0 var.0 ≡ false = let t = w.if-v-var.false in grind (arith, nat_tests) in
          let same_rest : rest' ≡ rest = omega (arith, ints) in
          let same_coefficient : coefficient' ≡ coefficient = omega (arith, ints) in
          let new : besides' ≡ besides +ℤ place.coefficient = omega (arith, ints) in
          record {
            so_far = besides-more var rest coefficient besides places i d place inside here before rest' coefficient' besides' v w.in-Variable.is same_rest test same_coefficient new;
            rest_bounded = omega (arith, ints);
            coefficient_bounded = omega (arith, ints);
            besides_bounded = omega (arith, ints);
          }
    ]

pub returns-clause-value : goal.returns-clause-value
returns-clause-value c = λ value.
    let places = places_in c.args.places.now in
    let past : length places ≤ c.loop-i.i = omega arith in
    whole-sum c.args.var (to_z w128 c.loop-i.rest-bits) (to_z w128 c.loop-i.coefficient-bits) (to_z w128 c.loop-i.besides-bits) places c.loop-i.i past c.loop-i.invariant.so_far value

pub returns-clause-besides : goal.returns-clause-besides
returns-clause-besides c =
    let places = places_in c.args.places.now in
    let past : length places ≤ c.loop-i.i = omega arith in
    whole-besides c.args.var (to_z w128 c.loop-i.rest-bits) (to_z w128 c.loop-i.coefficient-bits) (to_z w128 c.loop-i.besides-bits) places c.loop-i.i past c.loop-i.invariant.so_far
