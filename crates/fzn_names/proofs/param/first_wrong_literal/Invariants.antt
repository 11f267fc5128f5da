use Rattle.std.proofs.Common.{◌≡◌, length, flat_map}
use Rattle.fzn_names.specs.Positions.{first}
use Rattle.fzn_names.specs.Types.{wrong_literals}
use Rattle.fzn_names.proofs.param.first_wrong_literal.Given as goal

-- what is found from here on is what is found from the start
abbrev pub invariant-loop-literals : goal.invariant-loop-literals
invariant-loop-literals l = first (flat_map (wrong_literals l.wanted) l.literals) ≡ first (flat_map (wrong_literals l.wanted) l.initial.literals)

abbrev pub decreases-loop-literals : goal.decreases-loop-literals
decreases-loop-literals l = length l.literals
