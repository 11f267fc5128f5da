use Rattle.std.proofs.Common.{◌≡◌, take}
use Rattle.std.specs.List.{flat_map}
use Rattle.std.specs.Io.KnownBytes.{Appends}
use Rattle.fzn_core.specs.Listing.{number_line}
use Rattle.fzn_core.proofs.print.put_lines.Given as goal

-- the lines of the numbers before the index stand there
abbrev pub invariant-loop-number : goal.invariant-loop-number
invariant-loop-number g l = record {
  text : Appends (g.W.Write.contents l.initial.out) (g.W.Write.contents l.out) (flat_map (number_line l.bytes l.sources) (take l.number-index l.numbers));
  same : g.W.TrackedWrite.stream l.out ≡ g.W.TrackedWrite.stream l.initial.out;
}
