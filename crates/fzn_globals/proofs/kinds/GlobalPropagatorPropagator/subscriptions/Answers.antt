use Rattle.std.proofs.Common.{◌≡◌, ◌++◌, rules, arith}
use Rattle.std.proofs.lemmas.Grind.{common_steps}
use Rattle.fzn_propagator.specs.declared.event.Event.TheVariants.{Any, Bound}
use Rattle.fzn_propagator.specs.Subscriptions.{waits_each}
use Rattle.fzn_globals.proofs.HeardLemmas.{different_heard, inverse_heard}
use Rattle.fzn_globals.proofs.kinds.GlobalPropagatorPropagator.subscriptions.Goals as goal

pub returns-in_ok-add_each-in-AllDifferent-clause-heard : goal.returns-in_ok-add_each-in-AllDifferent-clause-heard
returns-in_ok-add_each-in-AllDifferent-clause-heard c = λ constraint same.
    let value : c.add_each.new.self ≡ waits_each Bound c.in-AllDifferent.places = first_of (search rules, grind (arith, common_steps)) in
    different_heard Bound c.add_each.new.self c.args.self.now.constraint constraint same c.in-AllDifferent.places c.in-AllDifferent.is value

pub returns-in_ok-add_each-in-Inverse-2-clause-heard : goal.returns-in_ok-add_each-in-Inverse-2-clause-heard
returns-in_ok-add_each-in-Inverse-2-clause-heard c = λ constraint same.
    let value : c.add_each-in-Inverse-2.new.self ≡ waits_each Any c.in-Inverse.forward ++ waits_each Any c.in-Inverse.backward = first_of (search rules, grind (arith, common_steps)) in
    inverse_heard Any c.add_each-in-Inverse-2.new.self c.args.self.now.constraint constraint same c.in-Inverse.forward c.in-Inverse.backward c.in-Inverse.is value
