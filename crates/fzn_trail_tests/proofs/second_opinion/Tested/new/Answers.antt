-- Clauses that hold none are watched on a new trail.
use Rattle.std.proofs.Common.{rules, sym, subst}
use Rattle.fzn_trail.specs.Levels.{Levels}
use Rattle.fzn_clauses.specs.Watching.{IsWatching}
use Rattle.fzn_trail_tests.proofs.second_opinion.Tested.new.Goals as goal

pub returns : goal.returns
returns c = record {
  over = search rules;
  watching =
      let F : Levels → Type 0 = λ trail. IsWatching c.new-clauses.result trail in
      subst F (sym c.in_ok-trail.ensures) (c.new-clauses.ensures.watching _);
  count = search rules;
}
