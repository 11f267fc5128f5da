use Rattle.std.proofs.Common.{◌≡◌, ◌++◌, take}
use Rattle.std.specs.Prelude.{codes}
use Rattle.std.specs.List.{flat_map}
use Rattle.std.specs.Io.KnownBytes.{Appends}
use Rattle.fzn_printer.specs.Shown.{range_text}
use Rattle.fzn_printer.proofs.item.put_ranges.Given as goal

-- the ranges before the index stand there
abbrev pub invariant-loop-range : goal.invariant-loop-range
invariant-loop-range g l = record {
  text : Appends (g.W.Write.contents l.initial.out) (g.W.Write.contents l.out) (flat_map (λ range. range_text range ++ codes ", ") (take l.range-index l.ranges));
  same : g.W.TrackedWrite.stream l.out ≡ g.W.TrackedWrite.stream l.initial.out;
}
