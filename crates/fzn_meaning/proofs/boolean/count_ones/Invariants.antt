use Rattle.std.proofs.Common.{◌≡◌, ◌≤◌, pos, take}
use Rattle.std.specs.List.{count_by}
use Rattle.std.specs.Ordering.{int_eq}
use Rattle.fzn_meaning.proofs.boolean.count_ones.Given as goal

abbrev pub invariant-loop-place : goal.invariant-loop-place
invariant-loop-place l = record {
  counted : l.ones ≡ count_by (λ x. int_eq x (pos 1)) (take l.place l.inputs);
  few : l.ones ≤ l.place;
}
