-- Values of terms.
use Rattle.std.specs.Prelude.{◌≡◌, ◌≢◌, ℕ, ℤ, pos, ◌≤ℤ◌, ◌<ℤ◌, List, slice_index_or}
use Rattle.std.specs.List.{All}
use Rattle.std.proofs.Props.{props}
use Rattle.fzn_domain.specs.IntSet.{IntSet}
use Rattle.fzn_values.specs.declared.term.Term.{Term}
use Rattle.fzn_values.specs.declared.term.Term.TheVariants.{Constant, Variable}
use Rattle.fzn_values.specs.Term.{IsTerm}
use Rattle.fzn_sets.specs.Terms.{MayBe, least_value, greatest_value}

-- the term at an index
abbrev pub place_at : List Term → ℕ → Term
place_at places k = slice_index_or places k (Constant (pos 0))

-- the term has one value
abbrev pub IsFixed : List IntSet → Term → Type 0
IsFixed sets term = least_value sets term ≡ greatest_value sets term

-- the least value of the term above another
pub record IsNextValue (sets : List IntSet) (term : Term) (value next : ℤ) : Type 0 where
  pub member : MayBe sets term next
  pub greater : value <ℤ next
  pub first : (v : ℤ) → MayBe sets term v → value <ℤ v → next ≤ℤ v

-- the value is the only one of the term
pub record IsOnly (sets : List IntSet) (term : Term) (value : ℤ) : Type 0 where
  pub member : MayBe sets term value
  pub only : (v : ℤ) → MayBe sets term v → v ≡ value

-- the term has another value
abbrev pub HasOther : List IntSet → Term → ℤ → Type 0
HasOther sets term value = (v : ℤ) × MayBe sets term v × (v ≢ value)

-- of a term's being one on so many variables there is one proof at most, and so of a list's
pub IsTerm-prop : (count : ℕ) (term : Term) → IsProp (IsTerm count term)
IsTerm-prop count (Constant k) = Prim.hlevel props
IsTerm-prop count (Variable var) = Prim.hlevel props

pub AreTerms-prop : (count : ℕ) (terms : List Term) → IsProp (All (IsTerm count) terms)
AreTerms-prop count terms = Prim.hlevel (props, IsTerm-prop)
