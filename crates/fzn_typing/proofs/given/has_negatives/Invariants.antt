use Rattle.std.proofs.Common.{◌≡◌, length}
use Rattle.std.specs.List.{list_any}
use Rattle.fzn_names.specs.Known.{known}
use Rattle.fzn_typing.specs.Arguments.{has_negative}
use Rattle.fzn_typing.proofs.given.has_negatives.Given as goal

-- what is found from here on is what is found from the start
abbrev pub invariant-loop-places : goal.invariant-loop-places
invariant-loop-places l = list_any (has_negative (known l.names) l.args) l.places ≡ list_any (has_negative (known l.names) l.args) l.initial.places

abbrev pub decreases-loop-places : goal.decreases-loop-places
decreases-loop-places l = length l.places
