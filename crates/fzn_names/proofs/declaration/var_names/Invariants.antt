use Rattle.std.proofs.Common.{◌≡◌, ◌+◌, ◌≤◌, length}
use Rattle.std.specs.List.{All}
use Rattle.fzn_names.specs.Declarations.{vars_faults, names_from}
use Rattle.fzn_names.specs.Known.{known}
use Rattle.fzn_names.specs.Limits.{IsVarWithin}
use Rattle.fzn_names.specs.Positions.{first}
use Rattle.fzn_names.specs.Variables.{vars_of}
use Rattle.fzn_names.proofs.declaration.var_names.Given as goal

-- the faults to come, the names so far with those to come, and how many variables and constraints there are
abbrev pub invariant-loop-vars : goal.invariant-loop-vars
invariant-loop-vars l = record {
  faults : first (vars_faults (known l.names) l.number l.before l.vars) ≡ first (vars_faults (known l.initial.names) 1 l.initial.before l.initial.vars);
  built : names_from (known l.names) l.number l.vars ≡ names_from (known l.initial.names) 1 l.initial.vars;
  within : All IsVarWithin l.vars;
  few : l.number + length (vars_of l.vars) ≤ 100001;
  room : l.before ≤ 100000;
}

abbrev pub decreases-loop-vars : goal.decreases-loop-vars
decreases-loop-vars l = length l.vars
