use Rattle.std.proofs.Common.{◌≡◌, ◌+◌, ◌*◌, ◌≤◌, length, take}
use Rattle.fzn_head.specs.Extended.{listed_in}
use Rattle.fzn_head.proofs.extender.parts_held.Given as goal

abbrev pub invariant-loop-part : goal.invariant-loop-part
invariant-loop-part l = record {
  so_far : l.held ≡ length l.parts + listed_in (take l.part-index l.parts);
  small : listed_in (take l.part-index l.parts) ≤ l.part-index * 18446744073709551615;
}
