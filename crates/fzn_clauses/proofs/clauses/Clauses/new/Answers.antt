use Rattle.fzn_clauses.proofs.WatchingLemmas.{IsWatching-fresh}
use Rattle.fzn_clauses.proofs.clauses.Clauses.new.Goals as goal

pub returns-clause-watching : goal.returns-clause-watching
returns-clause-watching c = λ declared. IsWatching-fresh _ declared c.new.ensures c.new-4.ensures.items
