use Rattle.std.proofs.Common.{sym, subst}
use Rattle.fzn_propagator.specs.Inference.{AreInferencesOf}
use Rattle.fzn_linear.specs.declared.kinds.ArithPropagator.{ArithPropagator}
use Rattle.fzn_linear.specs.AnyKind.{kind_number, KindIsFor}
use Rattle.fzn_linear.proofs.kinds.ArithPropagatorPropagator.propagate.Goals as goal

pub propagate-requires-clause-before : goal.propagate-requires-clause-before
propagate-requires-clause-before c =
    subst (λ (p : ArithPropagator). AreInferencesOf (kind_number p) (KindIsFor p) c.args.trail.now c.args.found.now) c.in-Sum.is c.requires.before

pub propagate-requires-in-Equality-clause-before :
    goal.propagate-requires-in-Equality-clause-before
propagate-requires-in-Equality-clause-before c =
    subst (λ (p : ArithPropagator). AreInferencesOf (kind_number p) (KindIsFor p) c.args.trail.now c.args.found.now) c.in-Equality.is c.requires.before

pub returns-in-Sum-clause-found : goal.returns-in-Sum-clause-found
returns-in-Sum-clause-found c =
    subst (λ (p : ArithPropagator). AreInferencesOf (kind_number p) (KindIsFor p) c.args.trail.now c.propagate.new.found) (sym c.in-Sum.is) c.propagate.ensures.found

pub returns-in-Equality-clause-found : goal.returns-in-Equality-clause-found
returns-in-Equality-clause-found c =
    subst (λ (p : ArithPropagator). AreInferencesOf (kind_number p) (KindIsFor p) c.args.trail.now c.propagate-in-Equality.new.found) (sym c.in-Equality.is) c.propagate-in-Equality.ensures.found
