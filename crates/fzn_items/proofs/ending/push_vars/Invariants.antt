use Rattle.std.proofs.Common.{◌≡◌, ◌++◌, take}
use Rattle.std.specs.List.{flat_map}
use Rattle.fzn_items.specs.Pieces.{variable_text}
use Rattle.fzn_items.proofs.ending.push_vars.Given as goal

abbrev pub invariant-loop-var : goal.invariant-loop-var
invariant-loop-var l = l.text.items ≡ l.initial.text.items ++ flat_map variable_text (take l.var-index l.vars)
