use Rattle.std.proofs.Common.{◌≡◌, ◌++◌, replicate}
use Rattle.fzn_sources.proofs.source.push_times.Given as goal

abbrev pub invariant-loop : goal.invariant-loop
invariant-loop l = l.sources.items ≡ l.initial.sources.items ++ replicate l.counter l.item
