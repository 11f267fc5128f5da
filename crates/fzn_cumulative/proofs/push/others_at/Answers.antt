use Rattle.std.proofs.Common.{◌≡◌, ◌*◌, sym, subst, arith, ℤ, pos, ◌+ℤ◌, ◌-ℤ◌, ◌≤ℤ◌, w64, to_z, of_z}
use Rattle.std.proofs.lemmas.Int.{ints}
use Rattle.fzn_values.specs.declared.term.Term.TheVariants.{Constant}
use Rattle.fzn_cumulative.specs.Loads.{total_of, total_but}
use Rattle.fzn_cumulative.proofs.LoadLemmas.{but-one, but-low}
use Rattle.fzn_cumulative.specs.Passes.{tasks_of}
use Rattle.fzn_cumulative.proofs.push.others_at.Goals as goal

less_of : (load used total but amount : ℤ) → load ≡ total → used ≡ amount → total ≡ but +ℤ amount → pos 0 ≤ℤ load → load ≤ℤ pos (100000 * 1000000000) → pos 0 ≤ℤ used → used ≤ℤ pos 1000000000 → to_z w64 (of_z w64 (to_z w64 (of_z w64 load) -ℤ to_z w64 (of_z w64 used))) ≡ but
less_of load used total but amount a b e low high least most = omega (arith, ints)

pub returns : goal.returns
returns c =
    let tasks = tasks_of c.args.pass.now in
    let sets = c.args.pass.now.trail.now.sets in
    let t = c.args.time.now in
    let value =
    less_of c.load_at.result c.use_at.result (total_of sets t tasks.starts tasks.durations tasks.uses) (total_but c.args.k sets t tasks.starts tasks.durations tasks.uses) _ c.load_at.ensures.value
    c.use_at.ensures.value
    (but-one sets t tasks.starts tasks.durations tasks.uses c.args.k (Constant (pos 0)) c.args.pass.now.ready.as_many_durations c.args.pass.now.ready.as_many_uses c.requires)
    c.load_at.ensures.not_negative c.load_at.ensures.bounded c.use_at.ensures.not_negative c.use_at.ensures.bounded in
    record {
      value = value;
      low = subst (λ (x : ℤ). pos 0 ≤ℤ x) (sym value) (but-low sets t c.args.k tasks.starts tasks.durations tasks.uses);
      high = omega (arith, ints);
    }
