use Rattle.fzn_globals.proofs.all_different.has_open.Given as goal

abbrev pub invariant-loop-k : goal.invariant-loop-k
invariant-loop-k l = Unit {0}
