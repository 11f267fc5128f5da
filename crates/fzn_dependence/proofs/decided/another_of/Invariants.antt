use Rattle.std.proofs.Common.{◌≡◌, take, None}
use Rattle.fzn_builtin_rules.specs.Borrowed.{places_in}
use Rattle.fzn_dependence.specs.Decided.{another_of}
use Rattle.fzn_dependence.proofs.decided.another_of.Given as goal

abbrev pub invariant-loop-i : goal.invariant-loop-i
invariant-loop-i l = record {
  none : another_of l.one l.two (take l.i (places_in l.places)) ≡ None;
}
