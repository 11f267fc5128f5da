-- What the fields of narrowed sets stand for.
use Rattle.std.specs.Prelude.{◌≡◌, ℕ, ◌<◌, List, length, map, take, slice_index_or}
use Rattle.fzn_domain.specs.declared.literal.Lit.{Lit}
use Rattle.fzn_domain.specs.IntSet.{IntSet}
use Rattle.fzn_domain.specs.Narrow.{IsVariable, set_of}
use Rattle.fzn_sets.specs.declared.sets.Narrowing.{Narrowing}
use Rattle.fzn_sets.specs.declared.sets.Sets.TheInside.{Inside}
use Rattle.fzn_sets.specs.Sets.{Narrowed, narrowed_along}

abbrev pub lits_narrowed : List Narrowing → List Lit
lits_narrowed narrowings = map (λ (narrowing : Narrowing). narrowing.lit) narrowings

abbrev pub narrowed_of : Inside → Narrowed
narrowed_of it = record { declared = it.declared.items; present = it.present.items; lits = lits_narrowed it.narrowings.items }

-- what a narrowing keeps of what stood before it
pub record IsNarrowing (declared : List IntSet) (earlier : List Lit) (narrowing : Narrowing) : Type 0 where
  pub variable : IsVariable (length declared) narrowing.lit.var
  pub set : narrowing.before ≡ set_of (narrowed_along declared earlier) narrowing.lit.var

abbrev pub AllNarrowings : List IntSet → List Narrowing → Type 0
AllNarrowings declared narrowings =
    (i : ℕ) (d : Narrowing) → i < length narrowings → IsNarrowing declared (take i (lits_narrowed narrowings)) (slice_index_or narrowings i d)

pub record IsSets (declared present : List IntSet) (narrowings : List Narrowing) : Type 0 where
  pub present_is : present ≡ narrowed_along declared (lits_narrowed narrowings)
  pub all_narrowings : AllNarrowings declared narrowings
