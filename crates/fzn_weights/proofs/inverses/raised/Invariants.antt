use Rattle.std.proofs.Common.{◌≡◌, true, pos}
use Rattle.std.specs.List.{list_all}
use Rattle.fzn_weights.specs.Limits.{is_entry_within}
use Rattle.fzn_weights.specs.Inverses.{raised_from}
use Rattle.fzn_weights.proofs.inverses.raised.Given as goal

abbrev pub invariant-loop-i : goal.invariant-loop-i
invariant-loop-i l = record {
  so_far : l.entries ≡ raised_from (pos 1) l.i l.raised_value l.more l.old;
  within : list_all is_entry_within l.entries ≡ true;
}
