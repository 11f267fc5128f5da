use Rattle.std.proofs.Common.{◌≡◌, length, flat_map}
use Rattle.fzn_names.specs.Known.{known}
use Rattle.fzn_names.specs.Positions.{first}
use Rattle.fzn_typing.specs.Arguments.{unknown_names}
use Rattle.fzn_typing.proofs.argument.first_unknown.Given as goal

-- what is found from here on is what is found from the start
abbrev pub invariant-loop-args : goal.invariant-loop-args
invariant-loop-args l = first (flat_map (unknown_names (known l.names)) l.args) ≡ first (flat_map (unknown_names (known l.names)) l.initial.args)

abbrev pub decreases-loop-args : goal.decreases-loop-args
decreases-loop-args l = length l.args
