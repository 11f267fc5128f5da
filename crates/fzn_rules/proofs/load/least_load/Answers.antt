use Rattle.std.proofs.Common.{◌≡◌, ◌∙◌, pos, ◌+ℤ◌, arith}
use Rattle.std.proofs.lemmas.Int.{ints}
use Rattle.fzn_values.specs.declared.term.Term.TheVariants.{Constant}
use Rattle.fzn_rules.specs.Load.{least_use_at}
use Rattle.fzn_rules.proofs.TaskLemmas.{sum_over-more, sum_over-all}
use Rattle.fzn_rules.proofs.load.least_load.Goals as goal
use mir.Syntax.{w64, w128}
use mir.Val.{to_z, of_z}

pub loop-k-preserved : goal.loop-k-preserved
loop-k-preserved c =
    let added : to_z w128 (of_z w128 (to_z w128 c.loop-k.load-bits +ℤ to_z w128 (of_z w128 (to_z w64 (of_z w64 c.least_use_at.result))))) ≡ to_z w128 c.loop-k.load-bits +ℤ c.least_use_at.result = omega (arith, ints) in
    record {
      so_far = added ∙ sum_over-more (least_use_at c.args.sets.now.present c.args.time.now) c.args.starts.now c.args.durations.now c.args.uses.now c.loop-k.k (Constant (pos 0)) (to_z w128 c.loop-k.load-bits) c.least_use_at.result c.requires.as_many_durations c.requires.as_many_uses c.loop-k-test.true c.loop-k.invariant.so_far c.least_use_at.ensures.value;
      bounded = omega (arith, ints);
    }

pub returns : goal.returns
returns c =
    c.loop-k.invariant.so_far
    ∙ sum_over-all (least_use_at c.args.sets.now.present c.args.time.now) c.args.starts.now c.args.durations.now c.args.uses.now c.loop-k.k c.requires.as_many_durations c.requires.as_many_uses c.loop-k-test.false
