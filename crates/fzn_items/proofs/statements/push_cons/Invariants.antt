use Rattle.std.proofs.Common.{◌≡◌, ◌+◌, ◌≤◌, ◌^◌, ◌++◌, length}
use Rattle.fzn_names.specs.Known.{known}
use Rattle.fzn_items.specs.Statements.{con_lines}
use Rattle.fzn_items.proofs.statements.push_cons.Given as goal

-- the lines so far, and those to come
abbrev pub invariant-loop-cons : goal.invariant-loop-cons
invariant-loop-cons l = record {
  built : l.text.items ++ con_lines (known l.names) l.number l.cons l.items ≡ l.initial.text.items ++ con_lines (known l.names) l.first l.initial.cons l.initial.items;
  few : l.number + length l.cons ≤ 2 ^ 32;
}

abbrev pub decreases-loop-cons : goal.decreases-loop-cons
decreases-loop-cons l = length l.cons
