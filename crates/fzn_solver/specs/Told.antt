-- What an observer was told.
use Rattle.std.specs.Prelude.{◌≡◌, ℕ, Option, unwrap_or}

-- where it tells of how many decisions it was told last, these are so many
abbrev pub IsTold : Option ℕ → ℕ → Type 0
IsTold told nodes = unwrap_or told nodes ≡ nodes
