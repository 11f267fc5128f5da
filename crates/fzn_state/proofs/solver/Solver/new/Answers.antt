use Rattle.std.proofs.Common.{◌≡◌, rules, sym, subst}
use Rattle.fzn_domain.specs.Narrow.{NoneEmpty}
use Rattle.fzn_meaning.specs.Solutions.{declared_sets}
use Rattle.fzn_trail.specs.Levels.{Levels}
use Rattle.fzn_clauses.specs.Watching.{IsWatching}
use Rattle.fzn_state.proofs.solver.Solver.new.Goals as goal

pub returns-clause-fresh : goal.returns-clause-fresh
returns-clause-fresh c = record {
  state = record {
    core = record {
      declared = search rules;
      filled =
          let same : c.in_ok-trail.trail.declared ≡ declared_sets c.args.model.now.vars = search rules in
          subst NoneEmpty (sym same) c.requires;
      accepted = search rules;
      stocked = search rules;
      reasoned = search rules;
      nodes_by_conflicts = search rules;
    };
    plain = λ is. search rules;
  };
  watching =
      let F : Levels → Type 0 = λ trail. IsWatching c.new-4.result trail in
      subst F (sym c.in_ok-trail.ensures) (c.new-4.ensures.watching _);
  order = search rules;
}
