-- Lists that have each value of a set, or each number of a run.
use Rattle.std.specs.Prelude.{◌≡◌, true, ℤ, ◌≤ℤ◌, List}
use Rattle.std.specs.List.{Contains}
use Rattle.fzn_domain.specs.IntSet.{IntSet, contains}

abbrev pub HasAll : IntSet → List ℤ → Type 0
HasAll s xs = (x : ℤ) → contains s x ≡ true → Contains xs x

abbrev pub HasRun : List ℤ → ℤ → ℤ → Type 0
HasRun xs low high = (x : ℤ) → low ≤ℤ x → x ≤ℤ high → Contains xs x
