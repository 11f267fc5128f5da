-- Where two terms have to be equal, by each value of the switch.
use Rattle.std.specs.Prelude.{◌≡◌, ℤ, pos, List, Option, Some, None}
use Rattle.fzn_domain.specs.IntSet.{IntSet}
use Rattle.fzn_values.specs.declared.term.Term.{Term}
use Rattle.fzn_meaning.specs.declared.relation.Relation.{Relation}
use Rattle.fzn_meaning.specs.declared.relation.Relation.TheVariants.{Equal, NotEqual}
use Rattle.fzn_sets.specs.Terms.{MayBe}

abbrev pub IsAskedEqual : List IntSet → Relation → Option Term → Type 0
IsAskedEqual sets Equal None = Unit {0}
IsAskedEqual sets Equal (Some switch) = (v : ℤ) → MayBe sets switch v → v ≡ pos 1
IsAskedEqual sets NotEqual (Some switch) = (v : ℤ) → MayBe sets switch v → v ≡ pos 0
IsAskedEqual sets _ _ = ⊥
