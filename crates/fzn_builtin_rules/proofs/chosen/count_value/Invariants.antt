use Rattle.std.proofs.Common.{◌≡◌, ◌+◌, ◌≤◌, ℤ, drop}
use Rattle.std.specs.List.{count_by}
use Rattle.std.specs.Ordering.{int_eq}
use Rattle.fzn_builtin_rules.specs.Numbered.{choice_at}
use Rattle.fzn_builtin_rules.proofs.chosen.count_value.Given as goal

-- the count so far and that of the terms left
abbrev pub invariant-loop-term : goal.invariant-loop-term
invariant-loop-term l = record {
  counted : count_by (λ (x : ℤ). int_eq x l.wanted) (choice_at l.sets.present l.terms l.fn.number) ≡ l.count + count_by (λ (x : ℤ). int_eq x l.wanted) (choice_at l.sets.present (drop l.term-index l.terms) l.left);
  few : l.count ≤ l.term-index;
}
