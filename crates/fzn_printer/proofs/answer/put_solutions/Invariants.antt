use Rattle.std.proofs.Common.{◌≡◌, take}
use Rattle.std.specs.List.{flat_map}
use Rattle.std.specs.Io.KnownBytes.{Appends}
use Rattle.fzn_printer.specs.Shown.{shown}
use Rattle.fzn_printer.proofs.answer.put_solutions.Given as goal

-- the solutions before the index stand there
abbrev pub invariant-loop-values : goal.invariant-loop-values
invariant-loop-values g l = record {
  text : Appends (g.W.Write.contents l.initial.out) (g.W.Write.contents l.out) (flat_map (shown l.model) (take l.values-index l.found));
  same : g.W.TrackedWrite.stream l.out ≡ g.W.TrackedWrite.stream l.initial.out;
}
