-- What the propagator at this place finds.
use Rattle.std.proofs.Common.{get_or, ap, ◌∙◌}
use Rattle.fzn_propagator.specs.Inference.{AreExhausted}
use Rattle.fzn_propagator.specs.Constraints.{IsInference, IsInferenceJustified}
use Rattle.fzn_propagators.proofs.FoundLemmas.{HoldsAt-item, fits-trail, all-found, all-justified}
use Rattle.fzn_propagators.proofs.TakenLemmas.{first-taken, others-left, none-taken}
use Rattle.fzn_propagators.proofs.propagators.ask.Goals as goal

pub propagate-requires-clause-fits : goal.propagate-requires-clause-fits
propagate-requires-clause-fits g c =
    let p = c.index-as_slice-place.result in
    fits-trail c.args.model.now c.args.trail.now c.requires.declared g.P.Propagator.number g.P.Propagator.is_for g.P.Propagator.fits c.args.items.now c.requires.is_for c.args.place p
    (c.index-as_slice-place.is ∙ ap (λ xs. get_or xs c.args.place p) c.as_slice.ensures) c.requires.place

pub returns-in_err-propagate-clause-rest : goal.returns-in_err-propagate-clause-rest
returns-in_err-propagate-clause-rest g c =
    let p = c.index-as_slice-place.result in
    all-justified c.args.model.now c.args.trail.now c.requires.declared g.P.Propagator.number g.P.Propagator.is_for g.P.Propagator.fits c.args.items.now c.requires.is_for c.args.place p
    (c.index-as_slice-place.is ∙ ap (λ xs. get_or xs c.args.place p) c.as_slice.ensures) c.requires.place c.propagate.new.found c.propagate.ensures.found

pub returns-clause-first : goal.returns-clause-first
returns-clause-first g c =
    let p = c.index-as_slice-place.result in
    first-taken (IsInference c.args.model.now c.args.trail.now) c.take_first.result c.propagate.new.found c.take_first.new.self c.take_first.ensures.some
    (all-found c.args.model.now c.args.trail.now c.requires.declared g.P.Propagator.number g.P.Propagator.is_for g.P.Propagator.fits c.args.items.now c.requires.is_for c.args.place p
    (c.index-as_slice-place.is ∙ ap (λ xs. get_or xs c.args.place p) c.as_slice.ensures) c.requires.place c.propagate.new.found c.propagate.ensures.found)

pub returns-clause-none : goal.returns-clause-none
returns-clause-none g c =
    let p = c.index-as_slice-place.result in
    none-taken _ c.take_first.result c.propagate.new.found c.take_first.new.self c.take_first.ensures.none
    (λ nothing. HoldsAt-item (λ q. AreExhausted (g.P.Propagator.is_for q) c.args.trail.now) c.args.items.now c.args.place p
    (c.index-as_slice-place.is ∙ ap (λ xs. get_or xs c.args.place p) c.as_slice.ensures) c.requires.place (c.in_ok-propagate.ensures.none nothing))

pub returns-clause-rest : goal.returns-clause-rest
returns-clause-rest g c =
    let p = c.index-as_slice-place.result in
    others-left (IsInferenceJustified c.args.model.now) c.take_first.result c.propagate.new.found c.take_first.new.self c.take_first.ensures.some c.take_first.ensures.none
    (all-justified c.args.model.now c.args.trail.now c.requires.declared g.P.Propagator.number g.P.Propagator.is_for g.P.Propagator.fits c.args.items.now c.requires.is_for c.args.place p
    (c.index-as_slice-place.is ∙ ap (λ xs. get_or xs c.args.place p) c.as_slice.ensures) c.requires.place c.propagate.new.found c.propagate.ensures.found)
