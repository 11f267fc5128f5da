use Rattle.std.proofs.Common.{◌+◌, ◌^◌, ◌*◌, ◌≤◌, unsigned_abs, ℤ, IfSome}
use Rattle.fzn_rules.specs.Separable.{IsLeastOf}
use Rattle.fzn_rules.proofs.LeastLemmas.{IsWeightBefore}
use Rattle.fzn_rules.proofs.separable.least_listed.Given as goal

abbrev pub invariant-loop-i : goal.invariant-loop-i
invariant-loop-i l = record {
  least : IsLeastOf (IsWeightBefore l.set l.coefficient l.listed l.i) l.least;
  bounded : IfSome l.least (λ (least : ℤ). unsigned_abs least ≤ 1000000000000 * 2 ^ 63 + 1000000000000000000);
}
