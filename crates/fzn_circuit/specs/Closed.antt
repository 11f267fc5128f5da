-- Where a term leads, by what a clause says of the sets on which it is denied.
use Rattle.std.specs.Prelude.{◌≤ℤ◌, ℤ, List}
use Rattle.std.specs.List.{Contains}
use Rattle.fzn_domain.specs.declared.literal.VarId.{VarId}
use Rattle.fzn_domain.specs.IntSet.{IntSet}
use Rattle.fzn_values.specs.declared.term.Term.{Term}
use Rattle.fzn_values.specs.declared.term.Term.TheVariants.{Variable}
use Rattle.fzn_sets.specs.Terms.{MayBe}

-- the value, where the term may have it, is one of the places
abbrev pub IsPlaceIf : List ℤ → Term → ℤ → List IntSet → Type 0
IsPlaceIf places term value sets = MayBe sets term value → Contains places value

-- the values of the variable from low to high are among the places
abbrev pub LeadsIntoBetween : List ℤ → VarId → ℤ → ℤ → List IntSet → Type 0
LeadsIntoBetween places var low high sets = (value : ℤ) → low ≤ℤ value → value ≤ℤ high → IsPlaceIf places (Variable var) value sets
