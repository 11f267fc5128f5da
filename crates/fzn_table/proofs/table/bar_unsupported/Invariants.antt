use Rattle.std.proofs.Common.{◌≡◌, []}
use Rattle.fzn_values.specs.Term.{numbers_in}
use Rattle.fzn_table.specs.Supports.{AreSupported}
use Rattle.fzn_table.specs.Passes.{AreOpenRows, AreFoundOfTable}
use Rattle.fzn_table.proofs.table.bar_unsupported.Given as goal

abbrev pub invariant-loop-p : goal.invariant-loop-p
invariant-loop-p l = record {
  supported : l.found ≡ [] → AreSupported l.pass.trail.now l.pass.places.now (numbers_in l.pass.rows.now) l.p;
  marks : AreOpenRows l.pass l.marks.items;
  found : AreFoundOfTable l.pass l.found;
}
