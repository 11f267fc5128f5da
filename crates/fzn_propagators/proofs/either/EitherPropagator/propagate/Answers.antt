use Rattle.std.proofs.Common.{◌≡◌, [], sym, subst, OnOk}
use Rattle.fzn_propagator.specs.Inference.{AreInferencesOf, AreExhausted}
use Rattle.fzn_propagators.specs.Either.{told_of_either, HoldsOfEither}
use Rattle.fzn_propagators.proofs.either.EitherPropagator.propagate.Goals as goal

pub propagate-requires-clause-before : goal.propagate-requires-clause-before
propagate-requires-clause-before g c =
    subst (λ p. AreInferencesOf (told_of_either g.A.Propagator.number g.B.Propagator.number p) (HoldsOfEither g.A.Propagator.is_for g.B.Propagator.is_for p) c.args.trail.now c.args.found.now) c.in-This.is c.requires.before

pub returns-in-This-clause-found : goal.returns-in-This-clause-found
returns-in-This-clause-found g c =
    subst (λ p. AreInferencesOf (told_of_either g.A.Propagator.number g.B.Propagator.number p) (HoldsOfEither g.A.Propagator.is_for g.B.Propagator.is_for p) c.args.trail.now c.propagate.new.found) (sym c.in-This.is) c.propagate.ensures.found

pub returns-in-This-clause-none : goal.returns-in-This-clause-none
returns-in-This-clause-none g c =
    subst (λ p. OnOk c.propagate.result (c.propagate.new.found ≡ [] → AreExhausted (HoldsOfEither g.A.Propagator.is_for g.B.Propagator.is_for p) c.args.trail.now)) (sym c.in-This.is) c.propagate.ensures.none

pub propagate-requires-in-Other-clause-before : goal.propagate-requires-in-Other-clause-before
propagate-requires-in-Other-clause-before g c =
    subst (λ p. AreInferencesOf (told_of_either g.A.Propagator.number g.B.Propagator.number p) (HoldsOfEither g.A.Propagator.is_for g.B.Propagator.is_for p) c.args.trail.now c.args.found.now) c.in-Other.is c.requires.before

pub returns-in-Other-clause-found : goal.returns-in-Other-clause-found
returns-in-Other-clause-found g c =
    subst (λ p. AreInferencesOf (told_of_either g.A.Propagator.number g.B.Propagator.number p) (HoldsOfEither g.A.Propagator.is_for g.B.Propagator.is_for p) c.args.trail.now c.propagate-in-Other.new.found) (sym c.in-Other.is) c.propagate-in-Other.ensures.found

pub returns-in-Other-clause-none : goal.returns-in-Other-clause-none
returns-in-Other-clause-none g c =
    subst (λ p. OnOk c.propagate-in-Other.result (c.propagate-in-Other.new.found ≡ [] → AreExhausted (HoldsOfEither g.A.Propagator.is_for g.B.Propagator.is_for p) c.args.trail.now)) (sym c.in-Other.is) c.propagate-in-Other.ensures.none
