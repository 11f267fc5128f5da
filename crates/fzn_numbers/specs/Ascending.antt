-- Lists of numbers that rise, and the neighbours of a bound in a set.
use Rattle.std.specs.Prelude.{◌≡◌, ℕ, ◌≤◌, true, ℤ, ◌<ℤ◌, ◌≤ℤ◌, List, length}
use Rattle.std.specs.List.{AllPairs, AllWithin}
use Rattle.fzn_numbers.specs.IntSet.{IntSet, contains}

-- each number is below those after it
abbrev pub IsAscending : List ℤ → Type 0
IsAscending xs = AllPairs ◌<ℤ◌ xs

-- the numbers before this place are below the bound, and no other is
pub record IsPlaceOf (xs : List ℤ) (bound : ℤ) (place : ℕ) : Type 0 where
  pub in_list : place ≤ length xs
  pub before : AllWithin (λ v. v <ℤ bound) xs 0 place
  pub after : AllWithin (λ v. bound ≤ℤ v) xs place (length xs)

-- the least member from the bound up
pub record IsNextFrom (s : IntSet) (bound value : ℤ) : Type 0 where
  pub member : contains s value ≡ true
  pub from_bound : bound ≤ℤ value
  pub first : (other : ℤ) → contains s other ≡ true → bound ≤ℤ other → value ≤ℤ other

-- the greatest member up to the bound
pub record IsLastUpTo (s : IntSet) (bound value : ℤ) : Type 0 where
  pub member : contains s value ≡ true
  pub up_to_bound : value ≤ℤ bound
  pub last : (other : ℤ) → contains s other ≡ true → other ≤ℤ bound → other ≤ℤ value

-- every member is below the bound
abbrev pub NoneFrom : IntSet → ℤ → Type 0
NoneFrom s bound = (other : ℤ) → contains s other ≡ true → other <ℤ bound

-- every member is above the bound
abbrev pub NoneUpTo : IntSet → ℤ → Type 0
NoneUpTo s bound = (other : ℤ) → contains s other ≡ true → bound <ℤ other
