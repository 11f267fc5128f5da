use Rattle.fzn_globals.specs.InversePasses.{AreFoundOfInverse}
use Rattle.fzn_globals.proofs.inverse.news.find_news.Given as goal

abbrev pub invariant-loop-n : goal.invariant-loop-n
invariant-loop-n l = AreFoundOfInverse l.pass l.found
