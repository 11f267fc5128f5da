use Rattle.std.proofs.Common.{◌+◌, ◌^◌, ◌*◌, ◌≤◌, unsigned_abs, ℤ, IfSome}
use Rattle.fzn_rules.specs.Separable.{IsLeastOf}
use Rattle.fzn_rules.proofs.TableWeightLemmas.{IsRowWeightBefore}
use Rattle.fzn_rules.proofs.separable.least_at_rows.Given as goal

abbrev pub invariant-loop-r : goal.invariant-loop-r
invariant-loop-r l = record {
  least : IsLeastOf (IsRowWeightBefore l.sets.present l.table l.r) l.least;
  bounded : IfSome l.least (λ (least : ℤ). unsigned_abs least ≤ 1000000000000 * 2 ^ 63 + 1000000000000000000);
}
