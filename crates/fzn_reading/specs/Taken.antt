-- The annotations so far.
use Rattle.std.specs.Prelude.{◌≡◌, ℕ, length}
use Rattle.std.specs.List.{All}
use Rattle.fzn_reading.specs.declared.taken.Taken.{Taken}
use Rattle.fzn_reading.specs.Over.{IsAnnotationOver}

-- how many variables there are
abbrev pub variable_count : Taken → ℕ
variable_count taken = length taken.is_named.items

-- they are over these variables, if they were
abbrev pub StaysOver : Taken → Taken → Type 0
StaysOver old new = All (IsAnnotationOver (variable_count old)) old.annotations.items → All (IsAnnotationOver (variable_count old)) new.annotations.items

-- there are as many variables, and the same annotations
pub record KeepsAnnotations (old new : Taken) : Type 0 where
  pub count : variable_count new ≡ variable_count old
  pub annotations : new.annotations.items ≡ old.annotations.items
