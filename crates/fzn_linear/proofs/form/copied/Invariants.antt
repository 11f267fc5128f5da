use Rattle.std.proofs.Common.{◌≡◌, take}
use Rattle.fzn_builtin_rules.specs.Borrowed.{places_in}
use Rattle.fzn_linear.proofs.form.copied.Given as goal

abbrev pub invariant-loop-i : goal.invariant-loop-i
invariant-loop-i l = l.all ≡ take l.i (places_in l.places)
