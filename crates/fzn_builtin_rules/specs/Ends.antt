-- What a place gives at least and at most, as the code keeps it.
use Rattle.std.specs.Prelude.{◌≡◌, ◌≤◌, List, unsigned_abs}
use Rattle.fzn_domain.specs.IntSet.{IntSet}
use Rattle.fzn_values.specs.declared.term.Place.{Place}
use Rattle.fzn_builtin_rules.specs.Linear.{low_product, high_product}
use Rattle.fzn_builtin_rules.specs.declared.ends.Products.{Products}

pub record HasSmallEnds (given : Products) : Type 0 where
  pub least_bounded : unsigned_abs given.least ≤ 1000000000000000000
  pub greatest_bounded : unsigned_abs given.greatest ≤ 1000000000000000000

-- what the place gives at least and at most
pub record AreProducts (sets : List IntSet) (place : Place) (given : Products) : Type 0 where
  pub least_is : given.least ≡ low_product sets place
  pub greatest_is : given.greatest ≡ high_product sets place
  pub small : HasSmallEnds given
