use Rattle.std.proofs.Common.{◌≡◌, length}
use Rattle.std.specs.List.{All}
use Rattle.fzn_meaning.specs.WellFormed.{IsOutputItem}
use Rattle.fzn_names.specs.Flags.{with_items}
use Rattle.fzn_names.proofs.flag.flag_items.Given as goal

-- what is to come, and that it is within
abbrev pub invariant-loop-items : goal.invariant-loop-items
invariant-loop-items l = record {
  built : with_items l.flags l.items ≡ with_items l.initial.flags l.initial.items;
  within : All (IsOutputItem (length l.flags)) l.items;
}

abbrev pub decreases-loop-items : goal.decreases-loop-items
decreases-loop-items l = length l.items
