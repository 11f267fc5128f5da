use Rattle.std.proofs.lemmas.Result.{on_ok_weaker}
use Rattle.fzn_meaning.specs.Meaning.{IsWellFormedConstraint}
use Rattle.fzn_table.proofs.PropagatorLemmas.{table_exhausted}
use Rattle.fzn_table.proofs.propagator.TablePropagatorPropagator.propagate.Goals as goal

pub bar_unsupported-requires : goal.bar_unsupported-requires
bar_unsupported-requires c = rw (c.as_slice-places.ensures, c.constants-rows.ensures) (record { before = record { all = c.requires.before } })

pub returns-clause-found : goal.returns-clause-found
returns-clause-found c = (rw (c.as_slice-places.ensures, c.constants-rows.ensures) at c.bar_unsupported.ensures.found).all

pub returns-clause-none : goal.returns-clause-none
unfolding IsWellFormedConstraint
returns-clause-none c =
    let trail = c.args.trail.now in
    let it = c.args.self.now in
    on_ok_weaker c.bar_unsupported.result (λ supported nothing constraint same booleans. table_exhausted trail it.places it.rows c.requires.fits.0.0 c.requires.fits.1 (supported nothing) constraint same)
    (rw (c.as_slice-places.ensures, c.constants-rows.ensures) at c.bar_unsupported.ensures.none)

pub returns-clause-supported : goal.returns-clause-supported
returns-clause-supported c = rw (c.as_slice-places.ensures, c.constants-rows.ensures) at c.bar_unsupported.ensures.none

pub invariant_of-pass-clause-chained : goal.invariant_of-pass-clause-chained
invariant_of-pass-clause-chained c = rw (c.as_slice-places.ensures, c.constants-rows.ensures) c.args.self.now.chained

pub invariant_of-pass-clause-numbers : goal.invariant_of-pass-clause-numbers
unfolding IsWellFormedConstraint
invariant_of-pass-clause-numbers c = rw c.constants-rows.ensures c.requires.fits.2
