-- The propagator holds the constraint itself, which is well formed.
use Rattle.std.proofs.Common.{length, ap}
use Rattle.fzn_globals.specs.declared.kinds.GlobalPropagator.{GlobalPropagator}
use Rattle.fzn_globals.proofs.ReadyLemmas.{all_different-ready, inverse-ready}
use Rattle.fzn_globals.proofs.kinds.propagator_for.Goals as goal

pub returns-in_ok-propagator-in-AllDifferent-clause-fits :
    goal.returns-in_ok-propagator-in-AllDifferent-clause-fits
returns-in_ok-propagator-in-AllDifferent-clause-fits c = λ declared formed.
    all_different-ready (length declared) c.args.given.now c.in_ok-propagator-in-AllDifferent.propagator.constraint formed _ c.in-AllDifferent.is
    (ap (λ (p : GlobalPropagator). p.constraint) c.in_ok-propagator-in-AllDifferent.ensures)

pub returns-in_ok-propagator-in-Inverse-clause-fits :
    goal.returns-in_ok-propagator-in-Inverse-clause-fits
returns-in_ok-propagator-in-Inverse-clause-fits c = λ declared formed.
    inverse-ready (length declared) c.args.given.now c.in_ok-propagator-in-Inverse.propagator.constraint formed _ _ c.in-Inverse.is
    (ap (λ (p : GlobalPropagator). p.constraint) c.in_ok-propagator-in-Inverse.ensures)
