use Rattle.std.proofs.Common.{◌≡◌, ◌++◌, take}
use Rattle.std.specs.Prelude.{codes}
use Rattle.std.specs.List.{flat_map}
use Rattle.std.specs.Io.KnownBytes.{Appends}
use Rattle.fzn_printer.specs.Shown.{entry_text}
use Rattle.fzn_printer.proofs.item.put_further.Given as goal

-- the entries before the index stand there
abbrev pub invariant-loop-entry : goal.invariant-loop-entry
invariant-loop-entry g l = record {
  text : Appends (g.W.Write.contents l.initial.out) (g.W.Write.contents l.out) (flat_map (λ entry. codes ", " ++ entry_text l.kind l.values entry) (take l.entry-index l.entries));
  same : g.W.TrackedWrite.stream l.out ≡ g.W.TrackedWrite.stream l.initial.out;
}
