use Rattle.std.proofs.Common.{◌*◌, ◌≤◌, take, unsigned_abs}
use Rattle.fzn_rules.specs.Separable.{IsLeastTotal}
use Rattle.fzn_rules.proofs.separable.is_separable_met.Given as goal

abbrev pub invariant-loop-part : goal.invariant-loop-part
invariant-loop-part l = record {
  so_far : IsLeastTotal l.sets.present (take l.part-index l.row.parts) l.sum;
  bounded : unsigned_abs l.sum ≤ l.part-index * 9223372037000000000000000000000;
}
