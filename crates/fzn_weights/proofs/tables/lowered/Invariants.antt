use Rattle.std.proofs.Common.{◌≡◌, true, ℤ, pos, ◌-ℤ◌, Some}
use Rattle.std.specs.List.{list_all}
use Rattle.fzn_weights.specs.Prices.{price_at}
use Rattle.fzn_weights.specs.Limits.{is_entry_within}
use Rattle.fzn_weights.specs.Moves.{moved_from}
use Rattle.fzn_weights.proofs.tables.lowered.Given as goal

abbrev pub invariant-loop-i : goal.invariant-loop-i
invariant-loop-i l = record {
  so_far : l.entries ≡ moved_from (λ (value : ℤ). Some (pos 0 -ℤ price_at l.low l.prices value)) l.first l.i l.old;
  within : list_all is_entry_within l.entries ≡ true;
}
