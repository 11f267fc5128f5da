-- One service after the other.
use Rattle.fzn_state.proofs.ForgetLemmas.{forgotten-reduced, reduced-through}
use Rattle.fzn_state.proofs.SettlingLemmas.{reduced-kept, kept-through}
use Rattle.fzn_state.proofs.solver.Solver.reduce.Goals as goal

pub prove_units-requires : goal.prove_units-requires
prove_units-requires g c =
    let cited = c.in_ok-hold_cited.ensures.reduced c.args.model.now _ c.requires.ready.state in
    record { ready = record { good = c.requires.ready.good; state = cited.state; kept = c.requires.ready.kept } }

pub settle-requires : goal.settle-requires
settle-requires g c =
    let units = c.in_ok-prove_units.ensures.reduced in
    let forgotten = forgotten-reduced units.state c.forget.new.clauses c.forget.ensures c.forget.new.notes in
    record { ready = record { good = c.requires.ready.good; state = forgotten.state; kept = c.prove_units.ensures.left.kept } }

pub returns-clause-kept : goal.returns-clause-kept
returns-clause-kept g c =
    let cited = c.in_ok-hold_cited.ensures.reduced c.args.model.now _ c.requires.ready.state in
    let units = reduced-through cited c.in_ok-prove_units.ensures.reduced in
    let forgotten = reduced-through units (forgotten-reduced units.state c.forget.new.clauses c.forget.ensures c.forget.new.notes) in
    kept-through (kept-through (reduced-kept forgotten) c.in_ok-settle.ensures.kept) (reduced-kept c.in_ok-delete.ensures.reduced)
