-- Separable rows: what each variable weighs at its value and each table at its row, and when values meet a row.
use Rattle.std.specs.Prelude.{◌≡◌, ◌≢◌, ℕ, ◌*◌, ◌<◌, ◌≤◌, ℤ, pos, negsuc, ◌+ℤ◌, ◌-ℤ◌, ◌*ℤ◌, ◌≤ℤ◌, Bool, true, false, ◌&&◌, if◌then◌else◌, List, [], ◌∷◌, length, drop, slice_index_or, Option, None, Some, IsSome, IfSome, unwrap_or, unsigned_abs, ⊤}
use Rattle.std.specs.List.{All, AllPairs}
use Rattle.std.specs.Option.{option_map}
use Rattle.std.specs.Ordering.{int_eq}
use Rattle.fzn_list.specs.Limits.{longest}
use Rattle.fzn_domain.specs.Limits.{IsInLimits}
use Rattle.fzn_domain.specs.Narrow.{IsVariable, value_of}
use Rattle.fzn_meaning.specs.declared.row.Listed.{Listed}
use Rattle.fzn_meaning.specs.declared.row.VariablePart.{VariablePart}
use Rattle.fzn_meaning.specs.declared.row.TablePart.{TablePart}
use Rattle.fzn_meaning.specs.declared.row.Part.{Part}
use Rattle.fzn_meaning.specs.declared.row.Part.TheVariants.{Variable, Table}
use Rattle.fzn_meaning.specs.declared.row.Row.{Row}
use Rattle.fzn_values.specs.Term.{values_of, IsTerm}
use Rattle.fzn_values.specs.Table.{row_at}

-- what is listed at a distance from the first number; none where nothing is, so that the value is barred
abbrev pub entry_in : List (Option ℤ) → ℤ → Option ℤ
entry_in weights (pos k) = slice_index_or weights k None
entry_in weights (negsuc k) = None

-- what is listed for a value; 0 for each where there is no list
abbrev pub listed_at : Option Listed → ℤ → Option ℤ
listed_at None value = Some (pos 0)
listed_at (Some listed) value = entry_in listed.weights (value -ℤ listed.low)

-- the coefficient times the value, and what is listed for it
abbrev pub weighed : ℤ → ℤ → Option ℤ → Option ℤ
weighed coefficient value entry = option_map (λ w. (coefficient *ℤ value) +ℤ w) entry

-- what the variable of the part weighs at a value; none where the value is barred
abbrev pub weight_at : VariablePart → ℤ → Option ℤ
weight_at part value = weighed part.coefficient value (listed_at part.listed value)

-- the numbers begin with these values
abbrev pub begins_with : List ℤ → List ℤ → Bool
begins_with [] numbers = true
begins_with (x ∷ xs) [] = false
begins_with (x ∷ xs) (number ∷ numbers) = int_eq number x && begins_with xs numbers

-- what is listed for the first row that equals the values; none where no row does, or where it is barred
abbrev pub row_weight : List ℤ → List ℤ → List (Option ℤ) → Option ℤ
row_weight xs rows [] = None
row_weight xs rows (weight ∷ weights) = if begins_with xs rows then weight else row_weight xs (drop (length xs) rows) weights

-- what the part weighs: at its variable's value, or at the table's row
abbrev pub weight_of : List ℤ → Part → Option ℤ
weight_of values (Variable part) = weight_at part (value_of values part.var)
weight_of values (Table table) = row_weight (values_of values table.places) table.rows table.weights

-- what all weigh together
unfoldable pub total_weight : List ℤ → List Part → ℤ
total_weight values [] = pos 0
total_weight values (part ∷ parts) = unwrap_or (weight_of values part) (pos 0) +ℤ total_weight values parts

-- no part is barred, and all weigh at most the bound together
pub record RowHolds (row : Row) (values : List ℤ) : Type 0 where
  pub none_barred : All (λ part. IsSome (weight_of values part)) row.parts
  pub most : total_weight values row.parts ≤ℤ row.bound

-- ---- which rows there are

abbrev pub IsWithinLimit : ℤ → Type 0
IsWithinLimit number = unsigned_abs number ≤ 1000000000000000000

abbrev pub IsCoefficient : ℤ → Type 0
IsCoefficient number = unsigned_abs number ≤ 1000000000000

pub record IsWeightList (listed : Listed) : Type 0 where
  pub low : IsInLimits listed.low
  pub few : length listed.weights ≤ 65536
  pub weights : All (λ entry. IfSome entry IsWithinLimit) listed.weights

-- numbers are within their limits, and the variable is one of this many
pub record IsVariablePart (count : ℕ) (part : VariablePart) : Type 0 where
  pub variable : IsVariable count part.var
  pub coefficient : IsCoefficient part.coefficient
  pub listed : IfSome part.listed IsWeightList

-- rows of this width that are equal weigh the same
abbrev pub WeighAlike : ℕ → List ℤ → List (Option ℤ) → Type 0
WeighAlike width rows weights = (r s : ℕ) → r < length weights → s < length weights → row_at width rows r ≡ row_at width rows s → slice_index_or weights r None ≡ slice_index_or weights s None

-- the places are terms over this many variables, the rows are as long as they are, each has a weight within the limits or is barred, and
-- rows that are equal weigh the same
pub record IsTablePart (count : ℕ) (table : TablePart) : Type 0 where
  pub places : All (IsTerm count) table.places
  pub some : 0 < length table.places
  pub numbers : All IsInLimits table.rows
  pub few : length table.rows ≤ longest
  pub one_each : length table.weights * length table.places ≡ length table.rows
  pub weights : All (λ entry. IfSome entry IsWithinLimit) table.weights
  pub alike : WeighAlike (length table.places) table.rows table.weights

abbrev pub IsPart : ℕ → Part → Type 0
IsPart count (Variable part) = IsVariablePart count part
IsPart count (Table table) = IsTablePart count table

-- the two are not of one variable
abbrev pub AreApart : Part → Part → Type 0
AreApart (Variable first) (Variable second) = first.var.0 ≢ second.var.0
AreApart _ _ = ⊤

-- at most 100,000 parts, of which no two are of one variable
pub record IsSeparableRow (count : ℕ) (row : Row) : Type 0 where
  pub parts : All (IsPart count) row.parts
  pub once : AllPairs AreApart row.parts
  pub few : length row.parts ≤ longest
  pub bound : IsWithinLimit row.bound
