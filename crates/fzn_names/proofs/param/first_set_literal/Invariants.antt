use Rattle.std.proofs.Common.{◌≡◌, length, flat_map}
use Rattle.fzn_names.specs.Positions.{first}
use Rattle.fzn_names.specs.Types.{set_literals}
use Rattle.fzn_names.proofs.param.first_set_literal.Given as goal

-- what is found from here on is what is found from the start
abbrev pub invariant-loop-literals : goal.invariant-loop-literals
invariant-loop-literals l = first (flat_map set_literals l.literals) ≡ first (flat_map set_literals l.initial.literals)

abbrev pub decreases-loop-literals : goal.decreases-loop-literals
decreases-loop-literals l = length l.literals
