use Rattle.std.proofs.Common.{◌≡◌}
use Rattle.fzn_derive.specs.Room.{variables_in, ListsTouched}
use Rattle.fzn_derive.proofs.AddingLemmas.{IsSumming}
use Rattle.fzn_derive.proofs.adder.Adder.add_all.Given as goal

abbrev pub invariant-loop-multiple : goal.invariant-loop-multiple
invariant-loop-multiple l = record {
  listed : ListsTouched l.self;
  variables : variables_in l.self ≡ variables_in l.fn.self;
  so_far : IsSumming l.given l.multiples l.multiple-index l.self l.bound;
}
