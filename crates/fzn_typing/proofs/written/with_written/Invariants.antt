use Rattle.std.proofs.Common.{◌≡◌, ◌++◌, length, flat_map}
use Rattle.std.specs.List.{All}
use Rattle.fzn_names.specs.Known.{known}
use Rattle.fzn_names.specs.Limits.{IsVarWithin}
use Rattle.fzn_typing.specs.Models.{written}
use Rattle.fzn_typing.proofs.written.with_written.Given as goal

-- those so far, and those to come
abbrev pub invariant-loop-vars : goal.invariant-loop-vars
invariant-loop-vars l = record {
  built : l.constraints ++ flat_map (written (known l.names)) l.vars ≡ l.initial.constraints ++ flat_map (written (known l.names)) l.initial.vars;
  within : All IsVarWithin l.vars;
}

abbrev pub decreases-loop-vars : goal.decreases-loop-vars
decreases-loop-vars l = length l.vars
