-- One more propagator that finds nothing, and what it means that none finds anything.
use Rattle.std.proofs.Common.{arith}
use Rattle.std.proofs.lemmas.List.Elements.{AllWithin-more}
use Rattle.fzn_propagator.specs.Inference.{AreExhausted}
use Rattle.fzn_propagators.proofs.FoundLemmas.{none-quiet}
use Rattle.fzn_propagators.proofs.propagators.ask_all.Goals as goal

pub loop-place-preserved : goal.loop-place-preserved
loop-place-preserved g c = record {
  none =
      AllWithin-more (λ p. AreExhausted (g.P.Propagator.is_for p) c.args.trail.now) c.args.items.now 0 c.loop-place.place c.loop-place.invariant.none
      (rw c.in_default.is at c.in_ok-first.ensures.none);
  rest = c.ask.ensures.rest;
  left = rw c.in_default.is at c.in_ok-first.ensures.left;
}

pub returns-clause-none : goal.returns-clause-none
returns-clause-none g c =
    none-quiet c.args.model.now c.args.trail.now c.requires.declared g.P.Propagator.number g.P.Propagator.is_for g.P.Propagator.fits c.args.items.now c.requires.is_for c.len-entries.ensures.narrower
    c.loop-place.place (omega arith) c.loop-place.invariant.none
