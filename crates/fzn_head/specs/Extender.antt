-- What a contract sees of what puts derived constraints behind a model's own.
use Rattle.std.specs.Prelude.{ℕ, ◌+◌}
use Rattle.fzn_meaning.specs.declared.model.Model.{Model}
use Rattle.fzn_derive.specs.Room.{IsClear}
use Rattle.fzn_head.specs.declared.extender.Extender.{Extender}
use Rattle.fzn_head.specs.Extended.{terms_held_in}

-- it is for a model with so many variables
abbrev pub IsReadyFor : ℕ → Extender → Type 0
IsReadyFor count extender = IsClear count extender.room

-- how many terms the model may have by it, with those that it has
abbrev pub most_terms : Extender → Model → ℕ
most_terms extender model = extender.left + terms_held_in model.constraints
