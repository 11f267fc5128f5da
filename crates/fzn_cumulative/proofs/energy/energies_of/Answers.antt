use Rattle.std.proofs.Common.{◌≡◌, ap₂, sym, ◌∙◌, arith, ℤ, pos, ◌+ℤ◌, to_z, of_z}
use Rattle.std.proofs.lemmas.Int.{ints}
use Rattle.fzn_values.specs.declared.term.Term.TheVariants.{Constant}
use Rattle.fzn_cumulative.proofs.EnergyLemmas.{energies-more}
use Rattle.fzn_cumulative.specs.Passes.{tasks_of}
use Rattle.fzn_cumulative.proofs.energy.energies_of.Goals as goal
use mir.Syntax.{w128}

pub loop-k-preserved : goal.loop-k-preserved
loop-k-preserved c =
    let tasks = tasks_of c.args.pass.now in
    let sets = c.args.pass.now.trail.now.sets in
    let from = c.args.span.now.from in
    let until = c.args.span.now.until in
    let short = c.args.pass.now.ready.starts.1 in
    let low = c.loop-k.invariant.low in
    let high = c.loop-k.invariant.high in
    let below = c.loop-k-test.true in
    let added : to_z w128 (of_z w128 (to_z w128 c.loop-k.energy-bits +ℤ to_z w128 (of_z w128 c.energy_of-energy.result))) ≡ to_z w128 c.loop-k.energy-bits +ℤ c.energy_of-energy.result = omega (arith, ints) in
    record {
      so_far = added ∙ ap₂ (λ (a b : ℤ). a +ℤ b) c.loop-k.invariant.so_far c.energy_of-energy.ensures.value ∙ sym (energies-more sets from until tasks.starts tasks.durations tasks.uses c.loop-k.k (Constant (pos 0)) c.args.pass.now.ready.as_many_durations c.args.pass.now.ready.as_many_uses (omega arith));
      low = omega (arith, ints);
      high = omega (arith, ints);
    }
