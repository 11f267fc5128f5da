-- The search for a name among spellings.
use Rattle.std.specs.Prelude.{ℕ, List, Option, find, option_map, bytes_eq}
use Rattle.fzn_registry.specs.declared.name.Name.{Name}

-- the first name that stands under this text
abbrev pub first_named : List (List ℕ × Name) → List ℕ → Option Name
first_named rows text = option_map (λ row. row.1) (find (λ row. bytes_eq row.0 text) rows)
