use Rattle.std.proofs.Common.{◌≡◌, ◌++◌, rules, arith, subst}
use Rattle.std.proofs.lemmas.Grind.{common_steps}
use Rattle.fzn_meaning.specs.declared.constraint.Constraint.{Constraint}
use Rattle.fzn_propagator.specs.declared.event.Event.TheVariants.{Any}
use Rattle.fzn_propagator.specs.Subscriptions.{terms_of, waits_each, waits_some, AreHeard}
use Rattle.fzn_builtin.proofs.HeardLemmas.{builtin_heard}
use Rattle.fzn_builtin.proofs.kinds.BuiltinPropagatorPropagator.subscriptions.Goals as goal

pub returns-clause-heard : goal.returns-clause-heard
returns-clause-heard c = λ constraint is.
    let parts = c.args.self.now.parts in
    let ready = c.requires.fits.1.parts_of in
    let value : c.add_some.new.self ≡ waits_each Any c.args.self.now.parts.inputs ++ waits_some Any c.args.self.now.parts.result = first_of (search rules, grind (arith, common_steps)) in
    subst (λ (k : Constraint). AreHeard c.add_some.new.self (terms_of k)) is (builtin_heard Any c.add_some.new.self parts.inputs parts.result parts.constraint value ready.inputs ready.result)
