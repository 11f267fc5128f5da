use Rattle.std.proofs.Common.{◌≡◌, ◌-◌, pos, drop, get_or}
use Rattle.fzn_builtin_rules.specs.Numbered.{choice_at}
use Rattle.fzn_builtin_rules.proofs.chosen.entry_in.Given as goal

-- the value stands so much nearer in what is left
abbrev pub invariant-loop-k : goal.invariant-loop-k
invariant-loop-k l = get_or (choice_at l.sets.present l.entries l.fn.number) l.place (pos 0) ≡ get_or (choice_at l.sets.present (drop l.k l.entries) l.left) (l.place - l.k) (pos 0)
