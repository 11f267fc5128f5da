use Rattle.std.proofs.Common.{Result, Ok, Err, OnOk, arith}
use Rattle.fzn_cumulative.specs.Passes.{tasks_of}
use Rattle.fzn_cumulative.proofs.PropagatorLemmas.{durations_inferred, uses_inferred, capacity_inferred}
use Rattle.fzn_cumulative.proofs.propagator.find_negative.Goals as goal

pub find_below-requires-clause-inferred : goal.find_below-requires-clause-inferred
find_below-requires-clause-inferred c = durations_inferred c.args.pass.now.trail.now (tasks_of c.args.pass.now)

pub find_below-requires-2-clause-inferred : goal.find_below-requires-2-clause-inferred
find_below-requires-2-clause-inferred c = uses_inferred c.args.pass.now.trail.now (tasks_of c.args.pass.now)

pub find_below-requires-3-clause-inferred : goal.find_below-requires-3-clause-inferred
find_below-requires-3-clause-inferred c = capacity_inferred c.args.pass.now.trail.now (tasks_of c.args.pass.now)

of_both : {T E A B C : Type 0} (result : Result T E) → (A → B → C) → OnOk result A → OnOk result B → OnOk result C
of_both (Ok x) f a b = f a b
of_both (Err e) f a b = tt

pub returns-clause-none : goal.returns-clause-none
returns-clause-none c =
    of_both c.find_below-3.result
    (λ kept none empty.
    let uses = kept empty in
    record {
      durations = c.in_ok-find_below.ensures.none (c.in_ok-find_below-2.ensures.kept uses);
      uses = c.in_ok-find_below-2.ensures.none uses;
      capacity = none empty 0 c.args.pass.now.capacity (omega arith);
    })
    c.find_below-3.ensures.kept c.find_below-3.ensures.none
