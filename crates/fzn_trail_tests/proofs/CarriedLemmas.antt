-- What clauses and their trail carry over a decision, a way back and a propagation.
use Rattle.std.proofs.Common.{◌≡◌, ℕ, length, ap, subst, sym, ◌∙◌}
use Rattle.fzn_domain.specs.declared.literal.Lit.{Lit}
use Rattle.fzn_domain.specs.Narrow.{IsVariable, IsClauseOver}
use Rattle.fzn_trail.specs.declared.trail.Reason.{Reason}
use Rattle.fzn_trail.specs.Levels.{Levels, pushed, asserted, returned, IsNarrower}
use Rattle.fzn_trail.proofs.CallerLemmas.{declared-returned}
use Rattle.fzn_clauses.specs.declared.clauses.Clauses.{Clauses}
use Rattle.fzn_clauses.specs.Held.{AllHeld}
use Rattle.fzn_clauses.specs.Propagation.{IsPropagated}
use Rattle.fzn_clauses.specs.Watching.{held_by, IsWatching}
use Rattle.fzn_clauses.proofs.CallerLemmas.{declared-Propagates}
use Rattle.fzn_clauses.proofs.WatchingLemmas.{IsWatching-asserted, IsWatching-pushed, IsWatching-returned}
use Rattle.fzn_trail_tests.specs.Carried.{IsCarried}

module _ (clauses : Clauses) (trail : Levels) (carried : IsCarried clauses trail) where
  pub IsCarried-decided : (lit : Lit) (reason : Reason) → trail.mark ≡ length trail.entries → IsVariable 51 lit.var → IsNarrower trail.sets trail.declared → IsCarried clauses (asserted lit reason (pushed trail))
  IsCarried-decided lit reason seen var narrower = record {
    over = carried.over;
    watching =
        IsWatching-asserted clauses (pushed trail) (IsWatching-pushed clauses trail carried.watching) lit reason
        (subst (λ (n : ℕ). IsVariable n lit.var) (sym (narrower.one_each ∙ carried.count)) var);
    count = carried.count;
  }

  pub IsCarried-returned : (level : ℕ) → IsCarried clauses (returned level trail)
  IsCarried-returned level = record {
    over = carried.over;
    watching = IsWatching-returned clauses trail carried.watching level;
    count = ap length (declared-returned level trail) ∙ carried.count;
  }

  pub IsCarried-propagated : (after : Clauses) (later : Levels) → held_by after ≡ held_by clauses → IsPropagated (held_by clauses) trail later → IsWatching after later → IsCarried after later
  IsCarried-propagated after later same run watching = record {
    over = subst (AllHeld (IsClauseOver 51)) (sym same) carried.over;
    watching = watching;
    count = ap length (declared-Propagates (held_by clauses) trail run.0 later run.1) ∙ carried.count;
  }
