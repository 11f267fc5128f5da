use Rattle.std.proofs.Common.{◌≡◌, true, take, length}
use Rattle.std.specs.List.{list_all}
use Rattle.fzn_weights.specs.Limits.{is_entry_within}
use Rattle.fzn_weights.specs.Tables.{weights_raised}
use Rattle.fzn_weights.specs.Amount.{amount_at}
use Rattle.fzn_weights.proofs.tables.weights_raised.Given as goal

abbrev pub invariant-loop-r : goal.invariant-loop-r
invariant-loop-r l = record {
  so_far : l.weights ≡ weights_raised (amount_at l.more) l.column (length l.part.places) l.part.rows (take l.r l.part.weights);
  within : list_all is_entry_within l.weights ≡ true;
}
