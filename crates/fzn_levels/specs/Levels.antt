-- Levels of the parts of a row, and clauses that say so.
use Rattle.std.specs.Prelude.{◌≡◌, ◌≢◌, ℕ, ◌+◌, ◌*◌, ◌<◌, ◌≤◌, true, ℤ, pos, ◌+ℤ◌, ◌≤ℤ◌, ◌<ℤ◌, List, [], ◌∷◌, length, slice_index_or, Option, None, Some, unsigned_abs}
use Rattle.std.specs.List.{All, Contains}
use Rattle.std.proofs.Props.{props}
use Rattle.fzn_domain.specs.declared.literal.VarId.{VarId}
use Rattle.fzn_domain.specs.declared.literal.Lit.{Lit}
use Rattle.fzn_domain.specs.Literal.{is_true_at}
use Rattle.fzn_domain.specs.IntSet.{IntSet, contains}
use Rattle.fzn_domain.specs.Narrow.{set_of}
use Rattle.fzn_values.specs.declared.term.Term.TheVariants.{Constant}
use Rattle.fzn_meaning.specs.declared.row.Listed.{Listed}
use Rattle.fzn_meaning.specs.declared.row.VariablePart.{VariablePart}
use Rattle.fzn_meaning.specs.declared.row.TablePart.{TablePart}
use Rattle.fzn_meaning.specs.declared.row.Part.{Part}
use Rattle.fzn_meaning.specs.declared.row.Part.TheVariants.{Variable, Table}
use Rattle.fzn_meaning.specs.declared.row.Row.{Row}
use Rattle.fzn_meaning.specs.Separable.{weight_at, IsPart, AreApart, IsSeparableRow}
use Rattle.fzn_rules.specs.GlobalRows.{MayBeRow}
use Rattle.fzn_rules.specs.Separable.{IsWeightIn, IsLeastWeight}
use Rattle.fzn_rules.specs.Least.{Reaches}
use Rattle.fzn_sets.specs.Terms.{MayBe}
use Rattle.fzn_trail.specs.Levels.{Levels}
use Rattle.fzn_terms.specs.Denied.{IsGrown}
use Rattle.fzn_terms.specs.Values.{IsTerm-prop}

-- of a part's being one over so many variables there is one proof at most, and so of a row's
pub IsPart-prop : (count : ℕ) (part : Part) → IsProp (IsPart count part)
IsPart-prop count (Variable part) = Prim.hlevel props
IsPart-prop count (Table table) = Prim.hlevel (props, IsTerm-prop)

pub AreApart-prop : (first second : Part) → IsProp (AreApart first second)
AreApart-prop (Variable first) (Variable second) = Prim.hlevel props
AreApart-prop (Variable first) (Table second) = Prim.hlevel props
AreApart-prop (Table first) (Variable second) = Prim.hlevel props
AreApart-prop (Table first) (Table second) = Prim.hlevel props

pub IsSeparableRow-prop : (count : ℕ) (row : Row) → IsProp (IsSeparableRow count row)
IsSeparableRow-prop count row = Prim.hlevel (props, IsPart-prop, AreApart-prop)

-- as far from 0 as a part can weigh at the most
abbrev pub IsWeight : ℤ → Type 0
IsWeight weight = unsigned_abs weight ≤ 9223372036855775808000000000000

-- numbers added up
abbrev pub sum_of : List ℤ → ℤ
sum_of [] = pos 0
sum_of (x ∷ xs) = x +ℤ sum_of xs

-- ---- levels

-- nothing that the part may weigh on the sets is less than the level; where there is none, it is barred there
abbrev pub IsNoLighter : List IntSet → Part → Option ℤ → Type 0
IsNoLighter sets part level = (weight : ℤ) → IsWeightIn sets part weight → Reaches level weight

-- so it is of each part and its level, but for the part at an index
abbrev pub AreNoLighterBut : ℕ → List Part → List ℤ → List IntSet → Type 0
AreNoLighterBut except parts levels sets =
    (k : ℕ) (default : Part) (none : ℤ) → k < length parts → k ≢ except → IsNoLighter sets (slice_index_or parts k default) (Some (slice_index_or levels k none))

-- the value listed at an index is in the set only if it weighs no less than the level
abbrev pub IsEntryNoLighter : List IntSet → VariablePart → Listed → ℕ → Option ℤ → Type 0
IsEntryNoLighter sets part listed k level =
    (weight : ℤ) → contains (set_of sets part.var) (listed.low +ℤ pos k) ≡ true → weight_at part (listed.low +ℤ pos k) ≡ Some weight → Reaches level weight

-- each entry of row r may be its place's value only if the row weighs no less than the level
abbrev pub IsRowNoLighter : List IntSet → TablePart → ℕ → Option ℤ → Type 0
IsRowNoLighter sets table r level =
    (weight : ℤ) → MayBeRow sets table.places table.rows r → slice_index_or table.weights r None ≡ Some weight → Reaches level weight

-- place k has not the entry of row r
abbrev pub IsPlaceOut : List IntSet → TablePart → ℕ → ℕ → Type 0
IsPlaceOut sets table r k =
    (k < length table.places) × (MayBe sets (slice_index_or table.places k (Constant (pos 0))) (slice_index_or table.rows (r * length table.places + k) (pos 0)) → ⊥)

-- some literal of the clause is true where the variable has the value
abbrev pub IsToldOut : List Lit → VarId → ℤ → Type 0
IsToldOut clause var value = (lit : Lit) × Contains clause lit × (lit.var ≡ var) × (is_true_at lit value ≡ true)

-- the clause, grown from a false one, is false, and says besides that the part weighs no less than the level
abbrev pub SaysNoLighter : Levels → Part → Option ℤ → List Lit → List Lit → Type 0
SaysNoLighter trail part level old new = IsGrown trail (λ sets. IsNoLighter sets part level) old new

-- so of all parts but for the one at an index
abbrev pub SaysAllNoLighter : Levels → ℕ → List Part → List ℤ → List Lit → List Lit → Type 0
SaysAllNoLighter trail except parts levels old new = IsGrown trail (AreNoLighterBut except parts levels) old new

-- ---- least weights

-- one for each part, which it weighs at least on the sets
pub record AreLeasts (sets : List IntSet) (parts : List Part) (leasts : List ℤ) : Type 0 where
  pub one_each : length leasts ≡ length parts
  pub each : (k : ℕ) (default : Part) (none : ℤ) → k < length leasts → IsLeastWeight sets (slice_index_or parts k default) (Some (slice_index_or leasts k none))
  pub bounded : All IsWeight leasts

-- one level for each part, none above its least weight but for the one at an index, which come to more than the bound together
pub record AreEnough (except : ℕ) (leasts levels : List ℤ) (bound : ℤ) : Type 0 where
  pub one_each : length levels ≡ length leasts
  pub below : (k : ℕ) (none : ℤ) → k < length leasts → k ≢ except → slice_index_or levels k none ≤ℤ slice_index_or leasts k none
  pub over : bound <ℤ sum_of levels
