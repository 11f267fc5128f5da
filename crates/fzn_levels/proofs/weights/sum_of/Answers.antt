use Rattle.std.proofs.Common.{arith, ◌≡◌, get_or, ◌∙◌, sym, ap, to_z, of_z, ℤ, pos, ◌+ℤ◌, FitsSigned}
use Rattle.std.proofs.lemmas.Int.{ints, fits_signed_from_abs}
use mir.Syntax.{w128}
use Rattle.fzn_levels.specs.Levels.{IsWeight}
use Rattle.fzn_levels.proofs.WeightLemmas.{sum-more, bounded_more}
use Rattle.fzn_levels.proofs.weights.sum_of.Goals as goal

pub loop-weight-preserved : goal.loop-weight-preserved
loop-weight-preserved c =
    let i = c.loop-weight.weight-index in
    let xs = c.args.weights.now in
    let x = get_or xs i (pos 0) in
    let small : IsWeight (get_or c.args.weights.now c.loop-weight.weight-index (pos 0)) = c.requires.bounded i (pos 0) c.loop-weight-test.true in
    let few = c.requires.few in
    let so_far = c.loop-weight.invariant.bounded in
    let fits : FitsSigned w128 (get_or c.args.weights.now c.loop-weight.weight-index (pos 0)) = fits_signed_from_abs w128 (get_or c.args.weights.now c.loop-weight.weight-index (pos 0)) (omega arith) in
    let is : to_z w128 (of_z w128 (to_z w128 c.loop-weight.total-bits +ℤ to_z w128 (of_z w128 (get_or c.args.weights.now c.loop-weight.weight-index (pos 0))))) ≡ to_z w128 c.loop-weight.total-bits +ℤ get_or c.args.weights.now c.loop-weight.weight-index (pos 0) = omega (arith, ints) in
    record {
      so_far = is ∙ ap (λ (n : ℤ). n +ℤ x) c.loop-weight.invariant.so_far ∙ sym (sum-more xs i (pos 0) c.loop-weight-test.true);
      bounded = bounded_more i (to_z w128 c.loop-weight.total-bits) x _ so_far small is;
    }
