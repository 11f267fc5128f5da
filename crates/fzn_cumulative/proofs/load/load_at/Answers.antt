use Rattle.std.proofs.Common.{◌≡◌, ap₂, sym, ◌∙◌, arith, ℤ, pos, ◌+ℤ◌, w64, to_z, of_z}
use Rattle.std.proofs.lemmas.Int.{ints}
use Rattle.fzn_values.specs.declared.term.Term.TheVariants.{Constant}
use Rattle.fzn_cumulative.proofs.LoadLemmas.{total-more}
use Rattle.fzn_cumulative.specs.Passes.{tasks_of}
use Rattle.fzn_cumulative.proofs.load.load_at.Goals as goal

pub loop-k-preserved : goal.loop-k-preserved
loop-k-preserved c =
    let tasks = tasks_of c.args.pass.now in
    let sets = c.args.pass.now.trail.now.sets in
    let short = c.args.pass.now.ready.starts.1 in
    let low = c.loop-k.invariant.not_negative in
    let high = c.loop-k.invariant.bounded in
    let below = c.loop-k-test.true in
    let added : to_z w64 (of_z w64 (to_z w64 c.loop-k.load-bits +ℤ to_z w64 (of_z w64 c.use_at-load.result))) ≡ to_z w64 c.loop-k.load-bits +ℤ c.use_at-load.result = omega (arith, ints) in
    record {
      so_far = added ∙ ap₂ (λ (a b : ℤ). a +ℤ b) c.loop-k.invariant.so_far c.use_at-load.ensures.value ∙ sym (total-more sets c.args.time.now tasks.starts tasks.durations tasks.uses c.loop-k.k (Constant (pos 0)) c.args.pass.now.ready.as_many_durations c.args.pass.now.ready.as_many_uses (omega arith));
      not_negative = omega (arith, ints);
      bounded = omega (arith, ints);
    }
