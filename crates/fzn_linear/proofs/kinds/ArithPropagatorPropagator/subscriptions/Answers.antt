use Rattle.std.proofs.Common.{◌≡◌, sym, subst, IfOk}
use Rattle.fzn_meaning.specs.declared.constraint.Constraint.{Constraint}
use Rattle.fzn_propagator.specs.Subscriptions.{terms_of, AreHeard}
use Rattle.fzn_linear.specs.declared.kinds.ArithPropagator.{ArithPropagator}
use Rattle.fzn_linear.specs.AnyKind.{KindIsFor, KindFits, sum_in}
use Rattle.fzn_linear.specs.Wakes.{sum_subscriptions}
use Rattle.fzn_linear.proofs.kinds.ArithPropagatorPropagator.subscriptions.Goals as goal

pub subscriptions-requires : goal.subscriptions-requires
subscriptions-requires c = record { fits = (c.requires.fits.0, subst (λ (p : ArithPropagator). KindFits p c.requires.fits.0) c.in-Sum.is c.requires.fits.1) }

pub returns-in-Sum-clause-heard : goal.returns-in-Sum-clause-heard
returns-in-Sum-clause-heard c =
    subst (λ (p : ArithPropagator). IfOk c.subscriptions.result (λ found. (constraint : Constraint) → KindIsFor p constraint → AreHeard found (terms_of constraint))) (sym c.in-Sum.is) c.subscriptions.ensures.heard

pub subscriptions-requires-in-Equality : goal.subscriptions-requires-in-Equality
subscriptions-requires-in-Equality c = record { fits = (c.requires.fits.0, subst (λ (p : ArithPropagator). KindFits p c.requires.fits.0) c.in-Equality.is c.requires.fits.1) }

pub returns-in-Equality-clause-heard : goal.returns-in-Equality-clause-heard
returns-in-Equality-clause-heard c =
    subst (λ (p : ArithPropagator). IfOk c.subscriptions-in-Equality.result (λ found. (constraint : Constraint) → KindIsFor p constraint → AreHeard found (terms_of constraint))) (sym c.in-Equality.is) c.subscriptions-in-Equality.ensures.heard

pub returns-in-Sum-clause-value : goal.returns-in-Sum-clause-value
returns-in-Sum-clause-value c = subst (λ (p : ArithPropagator). IfOk c.subscriptions.result (λ found. found ≡ sum_subscriptions (sum_in p))) (sym c.in-Sum.is) c.subscriptions.ensures.value

pub returns-in-Equality-clause-value : goal.returns-in-Equality-clause-value
returns-in-Equality-clause-value c = subst (λ (p : ArithPropagator). IfOk c.subscriptions-in-Equality.result (λ found. found ≡ sum_subscriptions (sum_in p))) (sym c.in-Equality.is) c.subscriptions-in-Equality.ensures.value
