use Rattle.std.proofs.Common.{◌≤◌, length}
use Rattle.fzn_separable.specs.Passes.{AreFoundOfRow}
use Rattle.fzn_separable.proofs.TotalLemmas.{AreFirstLeasts}
use Rattle.fzn_separable.proofs.search.find_all.Given as goal

abbrev pub invariant-loop-k : goal.invariant-loop-k
invariant-loop-k l = record {
  leasts : AreFirstLeasts l.pass.trail.now.sets l.pass.row.now.parts l.k l.leasts.items;
  within : l.k ≤ length l.pass.row.now.parts;
  before : AreFoundOfRow l.pass l.found;
}
