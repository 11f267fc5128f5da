use Rattle.std.proofs.Common.{◌≡◌, length}
use Rattle.fzn_names.specs.Known.{known}
use Rattle.fzn_names.specs.Positions.{first}
use Rattle.fzn_typing.specs.Arguments.{wrong_arguments}
use Rattle.fzn_typing.proofs.argument.first_wrong.Given as goal

-- what is found from here on is what is found from the start
abbrev pub invariant-loop-wanted : goal.invariant-loop-wanted
invariant-loop-wanted l = first (wrong_arguments (known l.names) l.wanted l.args) ≡ first (wrong_arguments (known l.names) l.initial.wanted l.initial.args)

abbrev pub decreases-loop-wanted : goal.decreases-loop-wanted
decreases-loop-wanted l = length l.wanted
