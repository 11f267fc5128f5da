use Rattle.std.proofs.Common.{◌≡◌, ◌+◌, ◌≤◌, ◌++◌, length}
use Rattle.std.specs.List.{All}
use Rattle.fzn_names.specs.Outputs.{shown_from}
use Rattle.fzn_names.specs.Known.{known}
use Rattle.fzn_names.specs.Limits.{IsVarWithin}
use Rattle.fzn_names.specs.Variables.{vars_of}
use Rattle.fzn_names.proofs.output.shown_of.Given as goal

-- those so far with those to come, and how many variables there are
abbrev pub invariant-loop-vars : goal.invariant-loop-vars
invariant-loop-vars l = record {
  built : l.shown ++ shown_from (known l.names) l.number l.vars ≡ shown_from (known l.names) 1 l.initial.vars;
  within : All IsVarWithin l.vars;
  few : l.number + length (vars_of l.vars) ≤ 100001;
}

abbrev pub decreases-loop-vars : goal.decreases-loop-vars
decreases-loop-vars l = length l.vars
