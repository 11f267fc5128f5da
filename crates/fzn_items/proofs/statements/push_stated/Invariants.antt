use Rattle.std.proofs.Common.{◌≡◌, ◌+◌, ◌≤◌, ◌^◌, ◌++◌, length}
use Rattle.std.specs.List.{flat_map}
use Rattle.fzn_names.specs.Known.{known}
use Rattle.fzn_typing.specs.Models.{written}
use Rattle.fzn_items.specs.Statements.{written_lines}
use Rattle.fzn_items.proofs.statements.push_stated.Given as goal

-- the lines so far, and those to come
abbrev pub invariant-loop-vars : goal.invariant-loop-vars
invariant-loop-vars l = record {
  built : l.text.items ++ written_lines (known l.names) l.number l.vars l.items ≡ l.initial.text.items ++ written_lines (known l.names) l.first l.initial.vars l.initial.items;
  few : l.number + length (flat_map (written (known l.names)) l.vars) ≤ 2 ^ 32;
}

abbrev pub decreases-loop-vars : goal.decreases-loop-vars
decreases-loop-vars l = length l.vars
