use Rattle.fzn_fixed.proofs.FixedLemmas.{AreOthers}
use Rattle.fzn_fixed.proofs.pass.Pass.other_values.Given as goal

abbrev pub invariant-loop-k : goal.invariant-loop-k
invariant-loop-k l = AreOthers l.self l.values l.claims l.k
