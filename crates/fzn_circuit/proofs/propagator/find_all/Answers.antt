use Rattle.std.proofs.Common.{Result, Ok, Err, OnOk}
use Rattle.fzn_circuit.proofs.PropagatorLemmas.{exhausted}
use Rattle.fzn_circuit.proofs.propagator.find_all.Goals as goal

on_ok_of : {T E P : Type 0} (result : Result T E) → P → OnOk result P
on_ok_of (Ok x) p = p
on_ok_of (Err e) p = tt

pub returns-clause-none : goal.returns-clause-none
returns-clause-none c =
    let trail = c.args.pass.now.trail.now in
    let xs = c.args.pass.now.successors.now in
    let inside = c.in_ok-find_outside.ensures.none c.if-not-is_empty.ensures in
    let different = c.in_ok-find_same.ensures.none c.if-not-is_empty-2.ensures in
    let none = c.in_ok-find_cuts.ensures.none c.if-not-is_empty-3.ensures in
    on_ok_of c.find_closed.result (λ empty given same booleans. exhausted trail xs c.args.pass.now.terms inside different none given same)
