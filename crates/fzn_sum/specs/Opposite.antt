-- The places whose sum is the negative of another's.
use Rattle.std.specs.Prelude.{◌≡◌, ℕ, ◌≤◌, pos, ◌-ℤ◌, List, map, length}
use Rattle.std.specs.List.{All}
use Rattle.fzn_values.specs.declared.term.Place.{Place}
use Rattle.fzn_values.specs.Term.{IsPlace}

-- the place gives the negative of what it gave
abbrev pub opposite_place : Place → Place
opposite_place place = record { coefficient = pos 0 -ℤ place.coefficient; term = place.term }

abbrev pub opposites : List Place → List Place
opposites places = map opposite_place places

-- at most 200,000 places over so many variables, and their opposites
pub record AreOpposite (count : ℕ) (places opposite_place : List Place) : Type 0 where
  pub places_fit : All (IsPlace count) places
  pub opposite_fit : All (IsPlace count) opposite_place
  pub short : length places ≤ 200000
  pub opposite_is : opposite_place ≡ opposites places
