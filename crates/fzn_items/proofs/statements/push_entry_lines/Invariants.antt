use Rattle.std.proofs.Common.{◌≡◌, ◌+◌, ◌≤◌, ◌^◌, ◌++◌, length}
use Rattle.fzn_names.specs.Known.{known}
use Rattle.fzn_items.specs.Statements.{entry_lines}
use Rattle.fzn_items.proofs.statements.push_entry_lines.Given as goal

-- the lines so far, and those to come
abbrev pub invariant-loop-entries : goal.invariant-loop-entries
invariant-loop-entries l = record {
  built : l.text.items ++ entry_lines (known l.names) l.number l.item l.entries ≡ l.initial.text.items ++ entry_lines (known l.names) l.first l.item l.initial.entries;
  few : l.number + length l.entries ≤ 2 ^ 32;
}

abbrev pub decreases-loop-entries : goal.decreases-loop-entries
decreases-loop-entries l = length l.entries
