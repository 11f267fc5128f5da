use Rattle.std.proofs.Common.{◌≡◌, true}
use Rattle.std.specs.List.{list_all}
use Rattle.fzn_dependence.specs.Dependence.{dependent_at}
use Rattle.fzn_weights.specs.Limits.{is_entry_within}
use Rattle.fzn_weights.specs.Moves.{weight_where, moved_from}
use Rattle.fzn_weights.proofs.moves.moved.Given as goal

abbrev pub invariant-loop-i : goal.invariant-loop-i
invariant-loop-i l = record {
  so_far : l.entries ≡ moved_from (weight_where l.set l.part (dependent_at l.dependence)) l.low l.i l.old;
  within : list_all is_entry_within l.entries ≡ true;
}
