use Rattle.std.proofs.Common.{◌≡◌, take}
use Rattle.std.specs.List.{flat_map}
use Rattle.std.specs.Io.KnownBytes.{Appends}
use Rattle.fzn_head.specs.Head.{derivation_line}
use Rattle.fzn_trim.proofs.write.put_derivations.Given as goal

abbrev pub invariant-loop-derivation : goal.invariant-loop-derivation
invariant-loop-derivation g l = record {
  text : Appends (g.W.Write.contents l.initial.new) (g.W.Write.contents l.new) (flat_map derivation_line (take l.derivation-index l.derivations));
  same : g.W.TrackedWrite.stream l.new ≡ g.W.TrackedWrite.stream l.initial.new;
}
