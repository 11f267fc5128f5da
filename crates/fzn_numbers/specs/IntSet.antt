-- Finite sets of whole numbers, however they are kept.
use Rattle.std.specs.Prelude.{◌≡◌, ◌≤ℤ◌, true, false, ℕ, zero, suc, Bool, ◌&&◌, int_le, int_lt, ℤ, pos, negsuc, ◌+ℤ◌, ◌-ℤ◌}
use Rattle.std.specs.Ordering.{int_cmp}
use Rattle.std.specs.FinSet as set

-- two of them are equal exactly where they have the same members
abbrev pub IntSet : Type 0
IntSet = set.FinSet int_cmp

abbrev pub contains : IntSet → ℤ → Bool
contains s v = set.contains s v

-- how many members a set has
abbrev pub size : IntSet → ℕ
size s = set.len s

abbrev pub no_values : IntSet
no_values = set.empty

-- the members from low to high, both included
unfoldable pub within : IntSet → ℤ → ℤ → IntSet
within s low high = set.retain s (λ v. int_le low v && int_le v high)

-- the members below a number
unfoldable pub below : IntSet → ℤ → IntSet
below s v = set.retain s (λ w. int_lt w v)

-- this many numbers from the first one up
unfoldable pub numbers_from : ℤ → ℕ → IntSet
numbers_from first zero = set.empty
numbers_from first (suc n) = set.insert (numbers_from first n) (first +ℤ pos n)

abbrev pub natural_part : ℤ → ℕ
natural_part (pos n) = n
natural_part (negsuc n) = 0

-- how many numbers lie from lo to hi, both included
abbrev pub width : ℤ → ℤ → ℕ
width lo hi = natural_part (hi +ℤ pos 1 -ℤ lo)

-- the last of the members that follow one another from this one
pub record IsRunEnd (s : IntSet) (from last : ℤ) : Type 0 where
  pub in_order : from ≤ℤ last
  pub members : (v : ℤ) → from ≤ℤ v → v ≤ℤ last → contains s v ≡ true
  pub behind : contains s (last +ℤ pos 1) ≡ false
