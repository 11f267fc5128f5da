-- Where all clauses are to be looked at, they are watched on any trail; and what one of them alone forces is propagated.
use Rattle.std.proofs.Common.{◌≡◌, ◌⊎◌, ℕ, ◌<◌, List, [], length, sym, ap, subst, inl, inr, arith}
use Rattle.fzn_domain.specs.declared.literal.Lit.{Lit}
use Rattle.fzn_domain.specs.Narrow.{IsVariable, IsClauseOver}
use Rattle.fzn_trail.specs.declared.trail.ClauseId.{ClauseId}
use Rattle.fzn_trail.specs.declared.trail.Antecedent.TheVariants.{Clause}
use Rattle.fzn_trail.specs.declared.trail.Reason.TheVariants.{Implied}
use Rattle.fzn_trail.specs.Levels.{Levels, NoneEmpty}
use Rattle.fzn_trail.specs.Unit.{IsUnit}
use Rattle.fzn_clauses.specs.declared.clauses.Clauses.{Clauses}
use Rattle.fzn_clauses.specs.Guard.{literal_at}
use Rattle.fzn_clauses.specs.Held.{IsHeld, clause_of, AllHeld}
use Rattle.fzn_clauses.specs.Looks.{IsForced, ForcesOne}
use Rattle.fzn_clauses.specs.Propagation.{Forced, IsPropagated}
use Rattle.fzn_clauses.specs.Rooted.{IsRooted}
use Rattle.fzn_clauses.specs.State.{IsOnlyPossible}
use Rattle.fzn_clauses.specs.Watching.{held_by, IsAmong, IsTidy, IsWatching}
use Rattle.fzn_clauses.proofs.CallerLemmas.{variable-unit, NoneEmpty-IsPropagated, IsPropagated-none, IsPropagated-forced}
use Rattle.fzn_clauses.proofs.LookLemmas.{forced_one}
use Rattle.fzn_clauses.proofs.WatchingLemmas.{length-watching, IsWatching-asserted}

pub IsWatching-pending : (clauses : Clauses) → IsTidy clauses.arena clauses.lists → clauses.again.items ≡ [] → ((k : ℕ) → k < length clauses.arena → IsAmong k clauses.pending.items) → (trail : Levels) → IsRooted trail → IsWatching clauses trail
IsWatching-pending clauses tidy no_again all trail rooted = record {
  rooted = rooted;
  tidy = tidy;
  rising = λ i j d le within. absurd (omega (arith, within, ap length no_again));
  present = λ k within live. inl (all k within);
  saved = λ i d h k within live. inl (all k within);
}

-- the one possible literal of a held clause is true, or was asserted
module _ (clauses : Clauses) (id : ClauseId) (is_held : IsHeld (held_by clauses) id) (told : Levels) (over : AllHeld (IsClauseOver (length told.declared)) (held_by clauses)) (filled : NoneEmpty told.sets) (watching : IsWatching clauses told) {clause : List Lit} (is : clause ≡ clause_of (held_by clauses) id) (place : ℕ) (only : IsOnlyPossible told.sets clause place) (tnew : Levels) (forced : IsForced (literal_at clause place) id told tnew) where
  over_it : IsClauseOver (length told.declared) clause
  over_it = subst (IsClauseOver (length told.declared)) (sym is) (over id is_held)

  one_each : length told.sets ≡ length told.declared
  one_each = length-watching clauses told watching

  outcome : (tnew ≡ told) ⊎ ForcesOne clause id told tnew
  outcome = forced_one clause told over_it one_each filled id tnew place only forced

  propagated_by : (tnew ≡ told) ⊎ ForcesOne clause id told tnew → IsPropagated (held_by clauses) told tnew
  propagated_by (inl same) = subst (IsPropagated (held_by clauses) told) (sym same) (IsPropagated-none (held_by clauses) told)
  propagated_by (inr forces) =
      let one : Forced = record { id = id; lit = forces.unit.0 } in
      let unit = subst (λ (c : List Lit). IsUnit told.sets c forces.unit.0) is forces.unit.1 in
      subst (IsPropagated (held_by clauses) told) (sym forces.unit.2) (IsPropagated-forced (held_by clauses) told one (record { is_held = is_held; unit = unit }))

  watching_by : (tnew ≡ told) ⊎ ForcesOne clause id told tnew → IsWatching clauses tnew
  watching_by (inl same) = subst (IsWatching clauses) (sym same) watching
  watching_by (inr forces) =
      let lit = forces.unit.0 in
      let var = variable-unit told.sets clause forces.unit.0 forces.unit.1 (length told.declared) over_it in
      subst (IsWatching clauses) (sym forces.unit.2) (IsWatching-asserted clauses told watching lit (Implied (Clause id)) (subst (λ (n : ℕ). IsVariable n forces.unit.0.var) (sym one_each) var))

  pub applied-propagated : IsPropagated (held_by clauses) told tnew
  applied-propagated = propagated_by outcome

  pub applied-watching : IsWatching clauses tnew
  applied-watching = watching_by outcome

  pub applied-left : NoneEmpty tnew.sets
  applied-left = NoneEmpty-IsPropagated (held_by clauses) told tnew applied-propagated filled
