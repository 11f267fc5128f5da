use Rattle.std.proofs.Common.{◌≡◌, ◌++◌, take}
use Rattle.std.specs.List.{flat_map}
use Rattle.fzn_items.specs.Declarations.{after_comma}
use Rattle.fzn_items.proofs.declarations.push_further.Given as goal

abbrev pub invariant-loop-value : goal.invariant-loop-value
invariant-loop-value l = l.text.items ≡ l.initial.text.items ++ flat_map after_comma (take l.value-index l.values)
