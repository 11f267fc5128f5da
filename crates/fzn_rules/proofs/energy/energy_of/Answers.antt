use Rattle.std.proofs.Common.{◌≡◌, ◌∙◌, pos, ◌+ℤ◌, arith}
use Rattle.std.proofs.lemmas.Int.{ints}
use Rattle.fzn_values.specs.declared.term.Term.TheVariants.{Constant}
use Rattle.fzn_rules.specs.Energy.{least_energy}
use Rattle.fzn_rules.proofs.TaskLemmas.{sum_over-more, sum_over-all}
use Rattle.fzn_rules.proofs.energy.energy_of.Goals as goal
use mir.Syntax.{w128}
use mir.Val.{to_z, of_z}

pub loop-k-preserved : goal.loop-k-preserved
loop-k-preserved c =
    let added : to_z w128 (of_z w128 (to_z w128 c.loop-k.energy-bits +ℤ to_z w128 (of_z w128 c.least_energy-energy.result))) ≡ to_z w128 c.loop-k.energy-bits +ℤ c.least_energy-energy.result = omega (arith, ints) in
    record {
      so_far = added ∙ sum_over-more (least_energy c.args.sets.now.present c.args.from.now c.args.until.now) c.args.starts.now c.args.durations.now c.args.uses.now c.loop-k.k (Constant (pos 0)) (to_z w128 c.loop-k.energy-bits) c.least_energy-energy.result c.requires.as_many_durations c.requires.as_many_uses c.loop-k-test.true c.loop-k.invariant.so_far c.least_energy-energy.ensures.value;
      bounded = omega (arith, ints);
    }

pub returns : goal.returns
returns c =
    c.loop-k.invariant.so_far
    ∙ sum_over-all (least_energy c.args.sets.now.present c.args.from.now c.args.until.now) c.args.starts.now c.args.durations.now c.args.uses.now c.loop-k.k c.requires.as_many_durations c.requires.as_many_uses c.loop-k-test.false
