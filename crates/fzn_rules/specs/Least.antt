-- What a variable weighs at least at the values of a set, with and without a list, and what one row of a table does.
use Rattle.std.specs.Prelude.{◌≡◌, true, ℕ, ℤ, ◌*ℤ◌, ◌-ℤ◌, ◌≤ℤ◌, int_lt, if◌then◌else◌, List, slice_index_or, Option, None, Some}
use Rattle.fzn_domain.specs.IntSet.{IntSet, contains}
use Rattle.fzn_meaning.specs.declared.row.Listed.{Listed}
use Rattle.fzn_meaning.specs.declared.row.TablePart.{TablePart}
use Rattle.fzn_meaning.specs.Separable.{weighed, entry_in}
use Rattle.fzn_rules.specs.GlobalRows.{MayBeRow}

-- the coefficient times some value of the set
abbrev pub IsProductIn : IntSet → ℤ → ℤ → Type 0
IsProductIn set coefficient w = (value : ℤ) × (contains set value ≡ true) × (w ≡ coefficient *ℤ value)

-- that of some value that is listed, with what is listed for it
abbrev pub IsListedWeightIn : IntSet → ℤ → Listed → ℤ → Type 0
IsListedWeightIn set coefficient listed w = (value : ℤ) × (contains set value ≡ true) × (weighed coefficient value (entry_in listed.weights (value -ℤ listed.low)) ≡ Some w)

-- what the table weighs at row r, each of whose values is in its place's set
abbrev pub IsRowWeight : List IntSet → TablePart → ℕ → ℤ → Type 0
IsRowWeight sets table r w = MayBeRow sets table.places table.rows r × (slice_index_or table.weights r None ≡ Some w)

-- the lesser of two numbers that may be there
abbrev pub lesser : Option ℤ → Option ℤ → Option ℤ
lesser None second = second
lesser (Some a) None = Some a
lesser (Some a) (Some b) = Some (if int_lt b a then b else a)

-- the weight is no less than the level; where there is no level, none is
abbrev pub Reaches : Option ℤ → ℤ → Type 0
Reaches None weight = ⊥
Reaches (Some level) weight = level ≤ℤ weight
