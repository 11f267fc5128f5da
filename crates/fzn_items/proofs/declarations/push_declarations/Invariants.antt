use Rattle.std.proofs.Common.{◌≡◌, ◌++◌, length}
use Rattle.std.specs.List.{All}
use Rattle.fzn_names.specs.Known.{known}
use Rattle.fzn_names.specs.Limits.{IsVarWithin}
use Rattle.fzn_items.specs.Declarations.{declaration_lines}
use Rattle.fzn_items.proofs.declarations.push_declarations.Given as goal

-- the lines so far, and those to come
abbrev pub invariant-loop-vars : goal.invariant-loop-vars
invariant-loop-vars l = record {
  built : l.text.items ++ declaration_lines (known l.names) l.vars l.items ≡ l.initial.text.items ++ declaration_lines (known l.names) l.initial.vars l.initial.items;
  within : All IsVarWithin l.vars;
}

abbrev pub decreases-loop-vars : goal.decreases-loop-vars
decreases-loop-vars l = length l.vars
