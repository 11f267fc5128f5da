-- The table of spellings, and the search in it.
use Rattle.std.proofs.Common.{◌≡◌, ◌≢◌, ℕ, List, [], ◌∷◌, map, true, false, Some, None, find, option_map, bytes_eq, refl, sym, ◌∙◌, ap, cond}
use Rattle.std.proofs.lemmas.Slice.Eq.{bytes_eq-Decides}
use Rattle.fzn_registry.specs.declared.name.Name.{Name}
use Rattle.fzn_registry.specs.declared.name.Name.TheVariants as n
use Rattle.fzn_registry.specs.declared.spelling.TheConstants.{SPELLINGS}
use Rattle.fzn_registry.specs.Registry.{row, spelling_of}
use Rattle.fzn_registry.specs.Spelling.{first_named}

-- where each row has its name's spelling, what is found has the text as its spelling
pub spelling_of-first_named : (rows : List (List ℕ × Name)) (text : List ℕ) (name : Name) → map (λ row. row.0) rows ≡ map (λ row. spelling_of row.1) rows → first_named rows text ≡ Some name → spelling_of name ≡ text
spelling_of-first_named [] text name right found = cc
spelling_of-first_named (row ∷ rows) text name right found =
    let head : row.0 ≡ spelling_of row.1 = cc in
    let tail : map (λ r. r.0) rows ≡ map (λ r. spelling_of r.1) rows = cc in
    elim (bytes_eq row.0 text) as (λ t. bytes_eq row.0 text ≡ t → option_map (λ r. r.1) (cond t (Some row) (find (λ r. bytes_eq r.0 text) rows)) ≡ Some name → spelling_of name ≡ text) [
      | true ↦ λ is_text is_found.
          let same : row.0 ≡ text = (bytes_eq-Decides row.0 text).0 is_text in
          let here : row.1 ≡ name = cc in
          ap spelling_of (sym here) ∙ (sym head ∙ same)
      | false ↦ λ _ is_found. spelling_of-first_named rows text name tail is_found
    ] refl found

-- the table
unfoldable pub rows : List (List ℕ × Name)
rows = map (λ row. (row.0.now, row.1)) SPELLINGS

-- each name is found under its spelling
pub first_named-spelling_of : (name : Name) → first_named rows (spelling_of name) ≡ Some name
unfolding rows row spelling_of
first_named-spelling_of n.IntEq = refl
first_named-spelling_of _ = refl

-- each row has its name's spelling
pub rows_right : map (λ row. row.0) rows ≡ map (λ row. spelling_of row.1) rows
unfolding rows row spelling_of
rows_right = refl

-- a text under which a name is found is the spelling of no other
pub only_spelled : (text : List ℕ) (found : Name) → first_named rows text ≡ Some found → (name : Name) → spelling_of name ≡ text → name ≡ found
only_spelled text found is_found name is_text = let e = first_named-spelling_of name in cc

-- a text under which none is found is the spelling of none
pub none_spelled : (text : List ℕ) → first_named rows text ≡ None → (name : Name) → spelling_of name ≢ text
none_spelled text is_none name is_text = let e = first_named-spelling_of name in cc
