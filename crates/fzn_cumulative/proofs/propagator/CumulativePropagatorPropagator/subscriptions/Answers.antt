use Rattle.std.proofs.Common.{◌≡◌, ◌++◌, rules, arith}
use Rattle.std.proofs.lemmas.Grind.{common_steps}
use Rattle.fzn_propagator.specs.declared.event.Event.TheVariants.{Bound}
use Rattle.fzn_propagator.specs.Subscriptions.{waits, waits_each}
use Rattle.fzn_cumulative.proofs.HeardLemmas.{cumulative_heard}
use Rattle.fzn_cumulative.proofs.propagator.CumulativePropagatorPropagator.subscriptions.Goals as goal

pub returns-clause-heard : goal.returns-clause-heard
returns-clause-heard c = λ constraint is.
    let tasks = c.args.self.now.tasks in
    let value : c.add.new.self ≡ waits_each Bound c.args.self.now.tasks.starts ++ waits_each Bound c.args.self.now.tasks.durations ++ waits_each Bound c.args.self.now.tasks.uses ++ waits Bound c.args.self.now.tasks.capacity = first_of (search rules, grind (arith, common_steps)) in
    cumulative_heard Bound tasks.starts tasks.durations tasks.uses tasks.capacity c.add.new.self constraint value is
