-- Members of a set, or the numbers that are none, by what a switch asks for.
use Rattle.std.specs.Prelude.{◌≡◌, Bool, true, false, not, ℤ, pos, ◌≤ℤ◌, ◌<ℤ◌, List, Option, Some, None}
use Rattle.fzn_domain.specs.IntSet.{IntSet, contains}
use Rattle.fzn_values.specs.declared.term.Term.{Term}
use Rattle.fzn_sets.specs.Terms.{MayBe}

-- the first number from this one up that is a member, or that is none
pub record IsNextAsked (s : IntSet) (asked : Bool) (from next : ℤ) : Type 0 where
  pub in_order : from ≤ℤ next
  pub between : (v : ℤ) → from ≤ℤ v → v <ℤ next → contains s v ≡ not asked

-- from this number up there is none
abbrev pub NoneAsked : IntSet → Bool → ℤ → Type 0
NoneAsked s asked from = (v : ℤ) → from ≤ℤ v → contains s v ≡ not asked

-- the switch asks for members, or for numbers that are none; without a switch members are asked for
abbrev pub IsSwitchedTo : List IntSet → Option Term → Bool → Type 0
IsSwitchedTo sets None true = Unit {0}
IsSwitchedTo sets None false = ⊥
IsSwitchedTo sets (Some switch) true = (v : ℤ) → MayBe sets switch v → v ≡ pos 1
IsSwitchedTo sets (Some switch) false = (v : ℤ) → MayBe sets switch v → v ≡ pos 0
