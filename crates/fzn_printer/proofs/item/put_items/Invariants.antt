use Rattle.std.proofs.Common.{◌≡◌, take}
use Rattle.std.specs.List.{flat_map}
use Rattle.std.specs.Io.KnownBytes.{Appends}
use Rattle.fzn_printer.specs.Shown.{item_text}
use Rattle.fzn_printer.proofs.item.put_items.Given as goal

-- the lines of the items before the index stand there
abbrev pub invariant-loop-item : goal.invariant-loop-item
invariant-loop-item g l = record {
  text : Appends (g.W.Write.contents l.initial.out) (g.W.Write.contents l.out) (flat_map (item_text l.values) (take l.item-index l.items));
  same : g.W.TrackedWrite.stream l.out ≡ g.W.TrackedWrite.stream l.initial.out;
}
