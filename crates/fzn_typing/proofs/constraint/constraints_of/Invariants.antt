use Rattle.std.proofs.Common.{◌≡◌, ◌++◌, length, flat_map}
use Rattle.std.specs.List.{All}
use Rattle.fzn_names.specs.Known.{known}
use Rattle.fzn_names.specs.Positions.{first}
use Rattle.fzn_typing.specs.Faults.{constraint_faults}
use Rattle.fzn_typing.specs.Limits.{IsConWithin}
use Rattle.fzn_typing.specs.Models.{stated}
use Rattle.fzn_typing.proofs.constraint.constraints_of.Given as goal

-- the faults to come, and the constraints so far with those to come
abbrev pub invariant-loop-cons : goal.invariant-loop-cons
invariant-loop-cons l = record {
  faults : first (flat_map (constraint_faults (known l.names)) l.cons) ≡ first (flat_map (constraint_faults (known l.names)) l.initial.cons);
  built : l.constraints ++ flat_map (stated (known l.names)) l.cons ≡ flat_map (stated (known l.names)) l.initial.cons;
  within : All IsConWithin l.cons;
}

abbrev pub decreases-loop-cons : goal.decreases-loop-cons
decreases-loop-cons l = length l.cons
