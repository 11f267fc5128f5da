-- Rows of a table, on the sets of a trail.
use Rattle.std.specs.Prelude.{◌≡◌, ◌⊎◌, Bool, true, false, ℕ, ◌+◌, ◌*◌, ◌/◌, ◌<◌, ◌≤◌, ℤ, pos, ◌-ℤ◌, ◌<ℤ◌, List, length, slice_index_or}
use Rattle.std.specs.List.{Contains}
use Rattle.fzn_domain.specs.declared.literal.VarId.{VarId}
use Rattle.fzn_domain.specs.declared.literal.Op.{Op}
use Rattle.fzn_domain.specs.declared.literal.Lit.{Lit}
use Rattle.fzn_domain.specs.Literal.{compares, is_true_at}
use Rattle.fzn_domain.specs.IntSet.{IntSet}
use Rattle.fzn_values.specs.declared.term.Term.{Term}
use Rattle.fzn_sets.specs.Terms.{MayBe, least_value, greatest_value}
use Rattle.fzn_trail.specs.Levels.{Levels}
use Rattle.fzn_rules.specs.GlobalRows.{IsRowOut, AreRowsOut}
use Rattle.fzn_terms.specs.Values.{place_at}
use Rattle.fzn_terms.specs.Narrow.{IsNarrow}
use Rattle.fzn_terms.specs.declared.narrow.TheConstants.{MOST_VALUES}

-- the rule `rows` of these places and rows
abbrev pub AreRowsOutOn : List Term → List ℤ → List IntSet → Type 0
AreRowsOutOn places rows sets = AreRowsOut sets places rows

-- the number of row r at place k, both counted from 0
abbrev pub number_at : List Term → List ℤ → ℕ → ℕ → ℤ
number_at places rows r k = slice_index_or rows (r * length places + k) (pos 0)

-- the row stands whole in the rows
abbrev pub IsWhole : List Term → List ℤ → ℕ → Type 0
IsWhole places rows r = r * length places + length places ≤ length rows

-- the value of the row at a place is not in the place's set
abbrev pub IsOutAt : List IntSet → List Term → List ℤ → ℕ → ℕ → Type 0
IsOutAt sets places rows r k = (k < length places) × (MayBe sets (place_at places k) (number_at places rows r k) → ⊥)

-- each of the first values of the row is in its place's set
abbrev pub IsOpenUpTo : List IntSet → List Term → List ℤ → ℕ → ℕ → Type 0
IsOpenUpTo sets places rows r count = (k : ℕ) → k < count → MayBe sets (place_at places k) (number_at places rows r k)

-- each value of each row that is marked is in its place's set
abbrev pub AreMarkedRowsOpen : List IntSet → List Term → List ℤ → List Bool → Type 0
AreMarkedRowsOpen sets places rows marks = (r : ℕ) → slice_index_or marks r false ≡ true → IsOpenUpTo sets places rows r (length places)

-- some row has the value at the place, and each of its values in its place's set
pub record IsSupport (sets : List IntSet) (places : List Term) (rows : List ℤ) (p : ℕ) (value : ℤ) (r : ℕ) : Type 0 where
  pub whole : IsWhole places rows r
  pub has_value : number_at places rows r p ≡ value
  pub is_open : IsOpenUpTo sets places rows r (length places)

abbrev pub IsSupported : List IntSet → List Term → List ℤ → ℕ → ℤ → Type 0
IsSupported sets places rows p value = (r : ℕ) × IsSupport sets places rows p value r

-- some value of the term stands so to the bound
abbrev pub MayStand : List IntSet → Term → Op → ℤ → Type 0
MayStand sets term op bound = (v : ℤ) × MayBe sets term v × (compares op v bound ≡ true)

-- some supported value of the place does
abbrev pub HasSupportThat : List IntSet → List Term → List ℤ → ℕ → Op → ℤ → Type 0
HasSupportThat sets places rows p op bound = (v : ℤ) × (compares op v bound ≡ true) × IsSupported sets places rows p v

-- ---- narrow places

-- the declared set of the term spans, from its least to its greatest value, at most 4,096 numbers
abbrev pub IsDeclaredNarrow : List IntSet → Term → Type 0
IsDeclaredNarrow declared term = (greatest_value declared term -ℤ least_value declared term) <ℤ MOST_VALUES

-- the place has few values, or a short span beside the number of rows
abbrev pub IsClosePlace : List IntSet → List Term → List ℤ → ℕ → Type 0
IsClosePlace sets places rows p = IsNarrow sets (place_at places p) (length rows / length places)

abbrev pub IsNarrowPlace : Levels → List Term → List ℤ → ℕ → Type 0
IsNarrowPlace trail places rows p = IsDeclaredNarrow trail.declared (place_at places p) ⊎ IsClosePlace trail.sets places rows p

-- the ends of a place are supported, and each value of a narrow one
pub record HasSupports (trail : Levels) (places : List Term) (rows : List ℤ) (p : ℕ) : Type 0 where
  pub least : IsSupported trail.sets places rows p (least_value trail.sets (place_at places p))
  pub greatest : IsSupported trail.sets places rows p (greatest_value trail.sets (place_at places p))
  pub each_where_narrow : IsNarrowPlace trail places rows p → (v : ℤ) → MayBe trail.sets (place_at places p) v → IsSupported trail.sets places rows p v

-- so it is of each of the first places
abbrev pub AreSupported : Levels → List Term → List ℤ → ℕ → Type 0
AreSupported trail places rows count = (p : ℕ) → p < count → HasSupports trail places rows p

-- ---- clauses

-- some literal of the clause is true where the variable has this value
abbrev pub IsBarred : List Lit → VarId → ℤ → Type 0
IsBarred clause var value = (lit : Lit) × Contains clause lit × (lit.var ≡ var) × (is_true_at lit value ≡ true)

-- of each of the first rows whose value at the place stands so to the bound, some value is not in its place's set
abbrev pub AreMatchesOut : List IntSet → List Term → List ℤ → ℕ → Op → ℤ → ℕ → Type 0
AreMatchesOut sets places rows p op bound count = (r : ℕ) → r < count → compares op (number_at places rows r p) bound ≡ true → IsRowOut sets places rows r
