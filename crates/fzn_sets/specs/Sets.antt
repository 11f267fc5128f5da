-- Sets that are narrowed literal by literal, and what each call makes of them.
use Rattle.std.specs.Prelude.{◌≡◌, ℕ, ◌-◌, ◌<◌, List, [], ◌∷◌, ◌++◌, length, take}
use Rattle.std.specs.List.{fold}
use Rattle.fzn_domain.specs.declared.literal.Lit.{Lit}
use Rattle.fzn_domain.specs.declared.literal.VarId.{VarId}
use Rattle.fzn_domain.specs.IntSet.{IntSet}
use Rattle.fzn_domain.specs.Narrow.{set_of, narrowed}
use Rattle.fzn_sets.specs.declared.sets.Possible.{Possible}
use Rattle.fzn_sets.specs.declared.sets.Possible.TheVariants.{Nothing, One, Several}

-- the declared sets, the literals by which they were narrowed, and what these left
pub record Narrowed : Type 0 where
  pub declared : List IntSet
  pub present : List IntSet
  pub lits : List Lit

-- what the literals leave of the sets
abbrev pub narrowed_along : List IntSet → List Lit → List IntSet
narrowed_along declared lits = fold narrowed declared lits

abbrev pub after : List IntSet → List Lit → Narrowed
after declared lits = record { declared = declared; present = narrowed_along declared lits; lits = lits }

abbrev pub start : List IntSet → Narrowed
start declared = after declared []

abbrev pub narrowed_by : Lit → Narrowed → Narrowed
narrowed_by lit sets = record sets { present = narrowed sets.present lit; lits = sets.lits ++ lit ∷ [] }

-- without the last literal
abbrev pub undone : Narrowed → Narrowed
undone sets = after sets.declared (take (length sets.lits - 1) sets.lits)

-- the set of the variable when there were so many literals
abbrev pub stood_before : Narrowed → ℕ → VarId → IntSet
stood_before sets i var = set_of (narrowed_along sets.declared (take i sets.lits)) var

-- these are the possible literals
abbrev pub IsPossibleIn : List Lit → Possible → Type 0
IsPossibleIn lits Nothing = lits ≡ []
IsPossibleIn lits (One lit) = lits ≡ lit ∷ []
IsPossibleIn lits Several = 1 < length lits
