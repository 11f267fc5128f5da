use Rattle.std.proofs.Common.{length, ap, ◌∙◌}
use Rattle.fzn_clauses.proofs.CallerLemmas.{declared-Propagates}
use Rattle.fzn_clauses.specs.Watching.{held_by}
use Rattle.fzn_trail_tests.proofs.clauses.run.Goals as goal

pub returns-clause-count : goal.returns-clause-count
returns-clause-count c =
    let run = c.propagate.ensures.propagated in
    ap length (declared-Propagates (held_by c.args.clauses.now) c.args.trail.now run.0 c.propagate.new.trail run.1) ∙ c.requires.count
