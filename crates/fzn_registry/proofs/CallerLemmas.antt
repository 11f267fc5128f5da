-- What callers may cite.
use Rattle.std.proofs.Common.{◌≡◌}
use Rattle.fzn_registry.specs.declared.name.Name.{Name}
use Rattle.fzn_registry.specs.Registry.{spelling_of}
use Rattle.fzn_registry.proofs.SpellingLemmas.{first_named-spelling_of}

-- no two names are written alike
pub spelling_of-same : (a b : Name) → spelling_of a ≡ spelling_of b → a ≡ b
spelling_of-same a b same =
    let found_a = first_named-spelling_of a in
    let found_b = first_named-spelling_of b in
    cc
