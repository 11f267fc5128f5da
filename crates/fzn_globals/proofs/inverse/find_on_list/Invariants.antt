use Rattle.std.proofs.Common.{◌≡◌, [], ℕ, ◌+◌, ◌<◌, get_or, pos}
use Rattle.fzn_values.specs.declared.term.Term.{Term}
use Rattle.fzn_globals.specs.InversePasses.{AreFoundOfInverse, AreEntries, LeadsBackAt}
use Rattle.fzn_globals.proofs.inverse.find_on_list.Given as goal

abbrev pub invariant-loop-k : goal.invariant-loop-k
invariant-loop-k l = record {
  found : AreFoundOfInverse l.pass l.found;
  kept : l.found ≡ [] → l.fn.found ≡ [];
  indices : l.found ≡ [] → (n : ℕ) (d : Term) → n < l.k → AreEntries l.pass (get_or l.pass.there.now n d);
  leads : l.found ≡ [] → (n : ℕ) → n < l.k → LeadsBackAt l.pass (pos (n + 1));
}
