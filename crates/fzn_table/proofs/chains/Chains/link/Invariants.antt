use Rattle.std.proofs.Common.{◌≡◌, ◌-◌, length}
use Rattle.fzn_table.proofs.ChainLemmas.{AreFirstsFrom, AreNextsFrom, AreApart}
use Rattle.fzn_table.proofs.chains.Chains.link.Given as goal

abbrev pub invariant-loop-step : goal.invariant-loop-step
invariant-loop-step l = record {
  one_each : length l.self.firsts.items ≡ length l.self.numbers.items;
  of_rows : length l.self.nexts.items ≡ length l.column;
  apart : AreApart l.self.numbers.items;
  firsts : AreFirstsFrom l.column l.self.numbers.items l.self.firsts.items (length l.column - l.step);
  nexts : AreNextsFrom l.column l.self.nexts.items (length l.column - l.step);
}
