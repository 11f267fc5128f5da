-- Clauses that hold none are watched on a new trail.
use Rattle.std.proofs.Common.{sym, subst}
use Rattle.fzn_trail.specs.Levels.{Levels}
use Rattle.fzn_clauses.specs.Watching.{IsWatching}
use Rattle.fzn_trail_tests.proofs.clauses.is_chain.Goals as goal

pub hold_chain-requires-clause-watching : goal.hold_chain-requires-clause-watching
hold_chain-requires-clause-watching c =
    let F : Levels → Type 0 = λ trail. IsWatching c.new-clauses.result trail in
    subst F (sym c.in_ok-trail.ensures.fresh) (c.new-clauses.ensures.watching _)
