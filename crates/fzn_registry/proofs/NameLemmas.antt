-- The name that is written in a given way.
use Rattle.std.proofs.Common.{◌≡◌, ◌≢◌, ℕ, List, [], ◌∷◌, true, false, Some, None, find, bytes_eq, refl, ap, sym, ◌∙◌, cond}
use Rattle.std.proofs.lemmas.Slice.Eq.{bytes_eq-Decides}
use Rattle.fzn_registry.specs.declared.name.Name.{Name}
use Rattle.fzn_registry.specs.declared.name.Name.TheVariants as n
use Rattle.fzn_registry.specs.Registry.{row, spelling_of, names, name_spelled}

-- each name is found under its spelling
pub name_spelled-spelling_of : (name : Name) → name_spelled (spelling_of name) ≡ Some name
unfolding row spelling_of names name_spelled
name_spelled-spelling_of n.IntEq = refl
name_spelled-spelling_of _ = refl

-- none is found where none is written so
find-none : (text : List ℕ) (among : List Name) → ((name : Name) → spelling_of name ≢ text) → find (λ name. bytes_eq (spelling_of name) text) among ≡ None
find-none text [] none = refl
find-none text (name ∷ among) none =
    elim (bytes_eq (spelling_of name) text) as (λ t. bytes_eq (spelling_of name) text ≡ t → cond t (Some name) (find (λ m. bytes_eq (spelling_of m) text) among) ≡ None) [
      | true ↦ λ is. absurd (none name ((bytes_eq-Decides (spelling_of name) text).0 is))
      | false ↦ λ is. find-none text among none
    ] refl

pub name_spelled-none : (text : List ℕ) → ((name : Name) → spelling_of name ≢ text) → name_spelled text ≡ None
unfolding name_spelled
name_spelled-none text none = find-none text names none
