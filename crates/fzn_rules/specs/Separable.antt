-- The rule `row`: what the variables and the tables weigh at least.
use Rattle.std.specs.Prelude.{◌≡◌, ◌⊎◌, true, ℕ, ◌<◌, ℤ, pos, ◌+ℤ◌, ◌≤ℤ◌, ◌<ℤ◌, List, [], ◌∷◌, length, slice_index_or, Option, None, Some}
use Rattle.std.specs.List.{Any}
use Rattle.fzn_domain.specs.IntSet.{IntSet, contains}
use Rattle.fzn_domain.specs.Narrow.{set_of}
use Rattle.fzn_meaning.specs.declared.row.VariablePart.{VariablePart}
use Rattle.fzn_meaning.specs.declared.row.TablePart.{TablePart}
use Rattle.fzn_meaning.specs.declared.row.Part.{Part}
use Rattle.fzn_meaning.specs.declared.row.Part.TheVariants.{Variable, Table}
use Rattle.fzn_meaning.specs.declared.row.Row.{Row}
use Rattle.fzn_meaning.specs.declared.constraint.Constraint.{Constraint}
use Rattle.fzn_meaning.specs.declared.constraint.Constraint.TheVariants as constraint
use Rattle.fzn_meaning.specs.Separable.{weight_at}
use Rattle.fzn_rules.specs.GlobalRows.{MayBeRow}

-- the least number of which P holds; none where it holds of none
abbrev pub IsLeastOf : (ℤ → Type 0) → Option ℤ → Type 0
IsLeastOf P None = (w : ℤ) → P w → ⊥
IsLeastOf P (Some least) = P least × ((w : ℤ) → P w → least ≤ℤ w)

-- what the variable weighs at some value of the set
abbrev pub IsVariableWeightIn : IntSet → VariablePart → ℤ → Type 0
IsVariableWeightIn set part w = (value : ℤ) × (contains set value ≡ true) × (weight_at part value ≡ Some w)

-- what the table weighs at some row, each of whose values is in its place's set
abbrev pub IsTableWeightIn : List IntSet → TablePart → ℤ → Type 0
IsTableWeightIn sets table w = (r : ℕ) × MayBeRow sets table.places table.rows r × (r < length table.weights) × (slice_index_or table.weights r None ≡ Some w)

abbrev pub IsWeightIn : List IntSet → Part → ℤ → Type 0
IsWeightIn sets (Variable part) w = IsVariableWeightIn (set_of sets part.var) part w
IsWeightIn sets (Table table) w = IsTableWeightIn sets table w

abbrev pub IsLeastWeight : List IntSet → Part → Option ℤ → Type 0
IsLeastWeight sets part least = IsLeastOf (IsWeightIn sets part) least

-- the least weights of the parts on the sets, added up
abbrev pub IsLeastTotal : List IntSet → List Part → ℤ → Type 0
IsLeastTotal sets [] total = total ≡ pos 0
IsLeastTotal sets (part ∷ parts) total = (least rest : ℤ) × IsLeastWeight sets part (Some least) × IsLeastTotal sets parts rest × (total ≡ least +ℤ rest)

-- row: all values of a variable or all rows of a table are barred, or the least weights add up to more than the bound
abbrev pub IsSeparableMet : Row → List IntSet → Type 0
IsSeparableMet row sets = Any (λ part. IsLeastWeight sets part None) row.parts ⊎ (total : ℤ) × IsLeastTotal sets row.parts total × (row.bound <ℤ total)

abbrev pub IsRowMet : Constraint → List IntSet → Type 0
IsRowMet (constraint.Row row) sets = IsSeparableMet row sets
IsRowMet _ sets = ⊥
