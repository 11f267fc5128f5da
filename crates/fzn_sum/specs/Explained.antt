-- When a clause explains what a place gives at least.
use Rattle.std.specs.Prelude.{◌≡◌, ◌≢◌, ◌⊎◌, ℕ, ◌<◌, true, false, ℤ, pos, ◌+ℤ◌, ◌*ℤ◌, ◌≤ℤ◌, ◌<ℤ◌, List, [], length, slice_index_or}
use Rattle.std.specs.List.{All, HoldsAt}
use Rattle.fzn_domain.specs.declared.literal.Lit.{Lit}
use Rattle.fzn_domain.specs.Literal.{is_true_at}
use Rattle.fzn_domain.specs.IntSet.{is_possible}
use Rattle.fzn_domain.specs.Narrow.{can_fail, set_of}
use Rattle.fzn_values.specs.declared.term.Term.TheVariants.{Variable}
use Rattle.fzn_values.specs.declared.term.Place.{Place}
use Rattle.fzn_builtin_rules.specs.Linear.{low_product}
use Rattle.fzn_trail.specs.Levels.{Levels}
use Rattle.fzn_values.specs.Term.{total_by}
use Rattle.fzn_sum.specs.declared.at_most.Forced.{Forced}
use Rattle.fzn_sum.specs.declared.at_most.PlaceFloor.{PlaceFloor}
use Rattle.fzn_propagator.specs.Clause.{IsWritable, IsFalseClause}
use Rattle.fzn_propagator.specs.Left.{IsLeft}

-- at each value that the clause leaves, the place gives no less than on the trail
abbrev pub IsPlaceExplained : Levels → List Lit → Place → Type 0
IsPlaceExplained trail clause place = (value : ℤ) → IsLeft trail.declared clause place.term value → low_product trail.sets place ≤ℤ (place.coefficient *ℤ value)

-- a literal that is false on the trail and explains what the place gives at least
pub record IsFloor (trail : Levels) (place : Place) (lit : Lit) : Type 0 where
  pub of_place : place.term ≡ Variable lit.var
  pub writable : IsWritable lit
  pub impossible : is_possible (set_of trail.sets lit.var) lit ≡ false
  pub explains : (value : ℤ) → is_true_at lit value ≡ false → low_product trail.sets place ≤ℤ (place.coefficient *ℤ value)

-- a literal that is neither true nor false on the trail, without which the place gives more than the slack allows
pub record IsForcedBySlack (trail : Levels) (place : Place) (slack : ℕ) (lit : Lit) : Type 0 where
  pub of_place : place.term ≡ Variable lit.var
  pub writable : IsWritable lit
  pub possible : is_possible (set_of trail.sets lit.var) lit ≡ true
  pub not_yet_true : can_fail trail.sets lit ≡ true
  pub exceeds : (value : ℤ) → is_true_at lit value ≡ false → (low_product trail.sets place +ℤ pos slack) <ℤ (place.coefficient *ℤ value)

-- a clause that is false on the trail and explains the places before an index, one place left out
pub record ExplainsPlaces (trail : Levels) (places : List Place) (before except : ℕ) (clause : List Lit) : Type 0 where
  pub still : IsFalseClause trail clause
  pub explained : (k : ℕ) (default : Place) → k < before → k ≢ except → IsPlaceExplained trail clause (slice_index_or places k default)

-- whatever values the clause leaves, each place by itself, the sum exceeds the bound
abbrev pub Exceeds : Levels → List Lit → List Place → ℤ → Type 0
Exceeds trail clause places bound =
    (choice : Place → ℤ) → All (λ place. IsLeft trail.declared clause place.term (choice place)) places
    → bound <ℤ total_by (λ place. place.coefficient *ℤ choice place) places

-- the literal that the place at this index is forced to
pub record IsForcedAt (trail : Levels) (places : List Place) (slack : ℕ) (forced : Forced) : Type 0 where
  pub in_places : forced.place < length places
  pub literal : (default : Place) → IsForcedBySlack trail (slice_index_or places forced.place default) slack forced.lit

-- the literal that explains what the place at this index gives at least
pub record IsFloorAt (trail : Levels) (places : List Place) (floor : PlaceFloor) : Type 0 where
  pub in_places : floor.place < length places
  pub literal : (default : Place) → IsFloor trail (slice_index_or places floor.place default) floor.lit

-- such literals, and each place before an index has one of them or needs none
pub record AreFloors (trail : Levels) (places : List Place) (before : ℕ) (floors : List PlaceFloor) : Type 0 where
  pub each : All (IsFloorAt trail places) floors
  pub explained : (k : ℕ) (default : Place) → k < before
      → IsPlaceExplained trail [] (slice_index_or places k default) ⊎ ((i : ℕ) × (i < length floors) × HoldsAt (λ floor. floor.place ≡ k) floors i)

-- a clause that is false on the trail and has those before an index, but for that of one place
pub record HasFloors (trail : Levels) (places : List Place) (floors : List PlaceFloor) (before except : ℕ) (clause : List Lit) : Type 0 where
  pub still : IsFalseClause trail clause
  pub explained : (i : ℕ) (floor : PlaceFloor) (default : Place) → i < before → (slice_index_or floors i floor).place ≢ except
      → IsPlaceExplained trail clause (slice_index_or places (slice_index_or floors i floor).place default)
