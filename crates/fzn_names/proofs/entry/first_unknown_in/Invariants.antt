use Rattle.std.proofs.Common.{◌≡◌, length, flat_map}
use Rattle.fzn_names.specs.Known.{known}
use Rattle.fzn_names.specs.Positions.{first}
use Rattle.fzn_names.specs.Types.{unknown_in}
use Rattle.fzn_names.proofs.entry.first_unknown_in.Given as goal

-- what is found from here on is what is found from the start
abbrev pub invariant-loop-entries : goal.invariant-loop-entries
invariant-loop-entries l = first (flat_map (unknown_in (known l.names)) l.entries) ≡ first (flat_map (unknown_in (known l.names)) l.initial.entries)

abbrev pub decreases-loop-entries : goal.decreases-loop-entries
decreases-loop-entries l = length l.entries
