-- Names in a map, and in lists of declarations.
use Rattle.std.proofs.Common.{◌≡◌, ℕ, Bool, List, [], ◌∷◌, ◌++◌, map, refl, sym, ◌∙◌, ap, cond, Some, None, bytes_eq}
use Rattle.std.specs.Map.{lookup}
use Rattle.std.proofs.lemmas.List.{map-append}
use Rattle.indexmap.specs.IndexMap.{IndexMap, insert_entry}
use Rattle.indexmap.proofs.CallerLemmas.{insert_entry-new}

-- what is found in a list whose keys are seen by their bytes
pub lookup-seen : {K V : Type 0} (seen : K → List ℕ) (test : List ℕ → Bool) (es : List (K × V)) → lookup test (map (λ e. (seen e.0, e.1)) es) ≡ lookup (λ k. test (seen k)) es
lookup-seen seen test [] = refl
lookup-seen seen test (e ∷ es) = ap (λ found. cond (test (seen e.0)) (Some e.1) found) (lookup-seen seen test es)

abbrev pub seen_by : {K V : Type 0} → (K → List ℕ) → K × V → List ℕ × V
seen_by seen e = (seen e.0, e.1)

-- a new name goes last
pub insert-seen : {K V S : Type 0} (seen : K → List ℕ) (m new : IndexMap K V S) (k : K) (v : V) (name : List ℕ) → seen k ≡ name
    → lookup (bytes_eq name) (map (seen_by seen) m.entries) ≡ None → new.entries ≡ insert_entry (λ x y. bytes_eq (seen x) (seen y)) m.entries k v
    → map (seen_by seen) new.entries ≡ map (seen_by seen) m.entries ++ (name, v) ∷ []
insert-seen {K} {V} seen m new k v name is absent entries =
    let see : K × V → List ℕ × V = seen_by seen in
    let one : K × V = (k, v) in
    let found : lookup (λ x. bytes_eq (seen k) (seen x)) m.entries ≡ None = sym (lookup-seen seen (bytes_eq (seen k)) m.entries) ∙ rw is absent in
    let added = insert_entry-new (λ x y. bytes_eq (seen x) (seen y)) m k v found in
    ap (λ es. map see es) (entries ∙ added) ∙ (map-append see m.entries (one ∷ []) ∙ ap (λ text. map see m.entries ++ (text, v) ∷ []) is)
