-- The ends of a sum.
use Rattle.std.specs.Prelude.{◌≡◌, ℕ, ◌*◌, ◌≤◌, pos, ◌≤ℤ◌, List, unsigned_abs}
use Rattle.std.specs.List.{All}
use Rattle.std.proofs.Props.{props}
use Rattle.fzn_domain.specs.IntSet.{IntSet}
use Rattle.fzn_values.specs.declared.term.Place.{Place}
use Rattle.fzn_values.specs.Term.{IsPlace}
use Rattle.fzn_terms.specs.Values.{IsTerm-prop}
use Rattle.fzn_builtin_rules.specs.Linear.{least_sum, greatest_sum}
use Rattle.fzn_propagator.specs.Inference.{spread_of_place}
use Rattle.fzn_builtin_rules.specs.declared.ends.Ends.{Ends}

-- the least and the greatest sum, and no place gives more above its least than the widest
pub record AreEnds (sets : List IntSet) (places : List Place) (ends : Ends) : Type 0 where
  pub least_is : ends.least ≡ least_sum sets places
  pub greatest_is : ends.greatest ≡ greatest_sum sets places
  pub none_wider : All (λ place. spread_of_place sets place ≤ℤ ends.widest) places
  pub not_below : pos 0 ≤ℤ ends.widest
  pub least_bounded : unsigned_abs ends.least ≤ 200000 * 1000000000000000000
  pub greatest_bounded : unsigned_abs ends.greatest ≤ 200000 * 1000000000000000000

pub AreEnds-prop : (sets : List IntSet) (places : List Place) (ends : Ends) → IsProp (AreEnds sets places ends)
AreEnds-prop sets places ends = Prim.hlevel props

pub ArePlaces-prop : (count : ℕ) (places : List Place) → IsProp (All (IsPlace count) places)
ArePlaces-prop count places = Prim.hlevel (props, IsTerm-prop)
