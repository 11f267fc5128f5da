use Rattle.std.proofs.Common.{◌≡◌, ◌++◌, take}
use Rattle.fzn_propagator.specs.Subscriptions.{waits_each}
use Rattle.fzn_propagator.proofs.subscriptions.Subscriptions.add_each.Given as goal

-- the subscriptions to the terms so far
abbrev pub invariant-loop-term : goal.invariant-loop-term
invariant-loop-term l = l.self ≡ l.initial.self ++ waits_each l.event (take l.term-index l.terms)
