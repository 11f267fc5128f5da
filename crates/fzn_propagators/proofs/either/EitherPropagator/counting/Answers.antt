use Rattle.std.proofs.Common.{sym, subst, IfOk, IfSome}
use Rattle.fzn_propagators.specs.Either.{HoldsOfEither}
use Rattle.fzn_propagators.proofs.either.EitherPropagator.counting.Goals as goal

pub returns-in-This : goal.returns-in-This
returns-in-This g c = record {
  counts = subst (λ p. IfOk c.counting.result (λ found. IfSome found (HoldsOfEither g.A.Propagator.counts g.B.Propagator.counts p))) (sym c.in-This.is) c.counting.ensures.counts;
}

pub returns-in-Other : goal.returns-in-Other
returns-in-Other g c = record {
  counts = subst (λ p. IfOk c.counting-in-Other.result (λ found. IfSome found (HoldsOfEither g.A.Propagator.counts g.B.Propagator.counts p))) (sym c.in-Other.is) c.counting-in-Other.ensures.counts;
}
