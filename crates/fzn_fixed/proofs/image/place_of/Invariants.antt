use Rattle.std.proofs.Common.{◌<◌, length}
use Rattle.fzn_fixed.proofs.ImageLemmas.{BoundsBefore}
use Rattle.fzn_fixed.proofs.image.place_of.Given as goal

-- the entry at the best place bounds those before this one
abbrev pub invariant-loop-i : goal.invariant-loop-i
invariant-loop-i l = record {
  inside : l.best < length l.entries;
  bounds : BoundsBefore l.extreme l.entries l.best l.i;
}
