use Rattle.std.proofs.Common.{◌≡◌, length}
use Rattle.fzn_values.specs.Term.{numbers_in}
use Rattle.fzn_table.specs.Chains.{AreAllChained}
use Rattle.fzn_table.proofs.supports.chains_of.Given as goal

abbrev pub invariant-loop-p : goal.invariant-loop-p
invariant-loop-p l = record {
  one_each : length l.all.items ≡ l.p;
  chained : AreAllChained l.places (numbers_in l.rows) l.all.items;
}
