use Rattle.std.proofs.Common.{◌≡◌, rules, arith}
use Rattle.std.proofs.lemmas.Grind.{common_steps}
use Rattle.fzn_propagator.specs.declared.event.Event.TheVariants.{Any}
use Rattle.fzn_propagator.specs.Subscriptions.{waits_each}
use Rattle.fzn_table.proofs.HeardLemmas.{table_heard}
use Rattle.fzn_table.proofs.propagator.TablePropagatorPropagator.subscriptions.Goals as goal

pub returns-clause-heard : goal.returns-clause-heard
returns-clause-heard c = λ constraint is.
    let value : c.add_each.new.self ≡ waits_each Any c.args.self.now.places = first_of (search rules, grind (arith, common_steps)) in
    table_heard Any c.add_each.new.self c.args.self.now.places c.args.self.now.rows constraint value is
