-- What the calls on clauses and their trail ask for and keep.
use Rattle.std.specs.Prelude.{◌≡◌, length}
use Rattle.fzn_domain.specs.Narrow.{IsClauseOver}
use Rattle.fzn_clauses.specs.declared.clauses.Clauses.{Clauses}
use Rattle.fzn_clauses.specs.Held.{AllHeld}
use Rattle.fzn_clauses.specs.Watching.{held_by, IsWatching}
use Rattle.fzn_trail.specs.Levels.{Levels}

-- clauses over 51 variables that propagate on this trail
pub record IsCarried (clauses : Clauses) (trail : Levels) : Type 0 where
  pub over : AllHeld (IsClauseOver 51) (held_by clauses)
  pub watching : IsWatching clauses trail
  pub count : length trail.declared ≡ 51
