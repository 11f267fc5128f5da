use Rattle.std.proofs.Common.{sym, subst, IfOk}
use Rattle.fzn_meaning.specs.declared.constraint.Constraint.{Constraint}
use Rattle.fzn_propagator.specs.Subscriptions.{terms_of, AreHeard}
use Rattle.fzn_propagators.specs.Either.{HoldsOfEither}
use Rattle.fzn_propagators.proofs.either.EitherPropagator.subscriptions.Goals as goal

pub subscriptions-requires : goal.subscriptions-requires
subscriptions-requires g c = record { fits = (c.requires.fits.0, subst (λ p. HoldsOfEither g.A.Propagator.fits g.B.Propagator.fits p c.requires.fits.0) c.in-This.is c.requires.fits.1) }

pub returns-in-This : goal.returns-in-This
returns-in-This g c = record {
  heard = subst (λ p. IfOk c.subscriptions.result (λ found. (constraint : Constraint) → HoldsOfEither g.A.Propagator.is_for g.B.Propagator.is_for p constraint → AreHeard found (terms_of constraint))) (sym c.in-This.is) c.subscriptions.ensures.heard;
}

pub subscriptions-requires-in-Other : goal.subscriptions-requires-in-Other
subscriptions-requires-in-Other g c = record { fits = (c.requires.fits.0, subst (λ p. HoldsOfEither g.A.Propagator.fits g.B.Propagator.fits p c.requires.fits.0) c.in-Other.is c.requires.fits.1) }

pub returns-in-Other : goal.returns-in-Other
returns-in-Other g c = record {
  heard = subst (λ p. IfOk c.subscriptions-in-Other.result (λ found. (constraint : Constraint) → HoldsOfEither g.A.Propagator.is_for g.B.Propagator.is_for p constraint → AreHeard found (terms_of constraint))) (sym c.in-Other.is) c.subscriptions-in-Other.ensures.heard;
}
