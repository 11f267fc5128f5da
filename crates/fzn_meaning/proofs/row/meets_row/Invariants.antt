use Rattle.std.proofs.Common.{◌≡◌, ◌*◌, ◌≤◌, take, unsigned_abs}
use Rattle.std.specs.Prelude.{IsSome}
use Rattle.std.specs.List.{All}
use Rattle.fzn_meaning.specs.Separable.{weight_of, total_weight}
use Rattle.fzn_meaning.proofs.row.meets_row.Given as goal

abbrev pub invariant-loop-part : goal.invariant-loop-part
invariant-loop-part l = record {
  unbarred : All (λ part. IsSome (weight_of l.values part)) (take l.part-index l.row.parts);
  so_far : l.total ≡ total_weight l.values (take l.part-index l.row.parts);
  bounded : unsigned_abs l.total ≤ l.part-index * 9223372037000000000000000000000;
}
