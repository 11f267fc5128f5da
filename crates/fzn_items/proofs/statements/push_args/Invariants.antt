use Rattle.std.proofs.Common.{◌≡◌, ◌++◌, length}
use Rattle.std.specs.List.{flat_map}
use Rattle.fzn_names.specs.Known.{known}
use Rattle.fzn_items.specs.Statements.{arg_text}
use Rattle.fzn_items.proofs.statements.push_args.Given as goal

-- the arguments so far, and those to come
abbrev pub invariant-loop-args : goal.invariant-loop-args
invariant-loop-args l = l.text.items ++ flat_map (arg_text (known l.names)) l.args ≡ l.initial.text.items ++ flat_map (arg_text (known l.names)) l.initial.args

abbrev pub decreases-loop-args : goal.decreases-loop-args
decreases-loop-args l = length l.args
