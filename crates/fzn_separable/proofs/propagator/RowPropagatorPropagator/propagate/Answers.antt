use Rattle.std.proofs.Common.{sym, subst}
use Rattle.std.proofs.lemmas.Result.{on_ok_weaker}
use Rattle.fzn_levels.specs.ByWeight.{AreOrdersOf}
use Rattle.fzn_separable.proofs.RowLemmas.{row_exhausted}
use Rattle.fzn_separable.proofs.propagator.RowPropagatorPropagator.propagate.Goals as goal

pub invariant_of-pass : goal.invariant_of-pass
invariant_of-pass c = record {
  ready = c.requires.fits;
  filled = c.requires.filled;
  ordered = subst (AreOrdersOf c.args.self.now.row.parts) (sym c.as_slice-2.ensures.value) c.args.self.now.ordered;
}

pub find_all-requires : goal.find_all-requires
find_all-requires c = record { before = record { all = c.requires.before } }

pub returns-clause-found : goal.returns-clause-found
returns-clause-found c = c.find_all.ensures.found.all

pub returns-clause-none : goal.returns-clause-none
returns-clause-none c =
    on_ok_weaker c.find_all.result
    (λ holds nothing constraint same booleans. row_exhausted c.args.trail.now c.args.self.now.row (holds nothing) constraint same)
    c.find_all.ensures.none
