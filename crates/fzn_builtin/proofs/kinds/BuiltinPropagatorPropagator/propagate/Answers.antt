use Rattle.std.proofs.Common.{Option, List, subst, IfSome}
use Rattle.fzn_domain.specs.declared.literal.Lit.{Lit}
use Rattle.fzn_rules.specs.declared.rule.Rule.TheVariants as rule
use Rattle.fzn_propagator.specs.Clause.{IsJustified}
use Rattle.fzn_builtin.proofs.kinds.BuiltinPropagatorPropagator.propagate.Goals as goal

pub narrow-requires-clause-before : goal.narrow-requires-clause-before
narrow-requires-clause-before c = record { all = c.requires.before }

pub returns-clause-found : goal.returns-clause-found
returns-clause-found c =
    let trail = c.args.trail.now in
    let C = c.args.self.now.parts.constraint in
    let justified = subst (λ (f : Option (List Lit)). IfSome f (IsJustified trail C rule.Fixed)) c.in-Some.is c.in_ok-clause.ensures.found in
    (c.hand_over.ensures.found trail C justified c.narrow.ensures).all
