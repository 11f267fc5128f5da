-- The rule `hall`: more places than values.
use Rattle.std.specs.Prelude.{◌⊎◌, Bool, ◌&&◌, ℤ, pos, ◌+ℤ◌, ◌-ℤ◌, ◌≤ℤ◌, ◌<ℤ◌, int_le, List}
use Rattle.std.specs.List.{count_by}
use Rattle.fzn_domain.specs.IntSet.{IntSet}
use Rattle.fzn_values.specs.declared.term.Term.{Term}
use Rattle.fzn_meaning.specs.declared.constraint.Constraint.{Constraint}
use Rattle.fzn_meaning.specs.declared.constraint.Constraint.TheVariants.{AllDifferent, Circuit, Inverse}
use Rattle.fzn_sets.specs.Terms.{least_value, greatest_value}

-- whether every value of the term is from low to high
abbrev pub lies_within : List IntSet → ℤ → ℤ → Term → Bool
lies_within sets low high term = int_le low (least_value sets term) && int_le (greatest_value sets term) high

-- low is at most high, and more places than there are numbers from low to high lie within them
pub record HasExcess (sets : List IntSet) (low high : ℤ) (places : List Term) : Type 0 where
  pub in_order : low ≤ℤ high
  pub excess : ((high -ℤ low) +ℤ pos 1) <ℤ pos (count_by (lies_within sets low high) places)

-- hall: the places of all_different, of circuit, or of one of the two lists of inverse have an excess
unfoldable pub IsHallMet : Constraint → List IntSet → ℤ → ℤ → Type 0
IsHallMet (AllDifferent places) sets low high = HasExcess sets low high places
IsHallMet (Circuit successors) sets low high = HasExcess sets low high successors
IsHallMet (Inverse forward backward) sets low high = HasExcess sets low high forward ⊎ HasExcess sets low high backward
IsHallMet _ sets low high = ⊥
