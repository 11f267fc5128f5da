-- One item after another.
use Rattle.std.proofs.Common.{◌≡◌, List, ◌∷◌, ◌++◌, Some, None, flat_map, sym, append_assoc}
use Rattle.fzn_names.specs.Positions.{first}
use Rattle.fzn_names.proofs.FirstLemmas.{first-append_none, first-append_some}

module _ {X Y : Type 0} (f : X → List Y) (xs ys : List X) (x : X) (all : xs ≡ x ∷ ys) where
  -- what is found of an item is found of all
  pub found_here : (y : Y) → first (f x) ≡ Some y → first (flat_map f xs) ≡ Some y
  found_here y e = rw all (first-append_some (f x) (flat_map f ys) y e)

  -- behind an item of which nothing is found, the rest decides
  pub found_later : first (f x) ≡ None → first (flat_map f ys) ≡ first (flat_map f xs)
  found_later none = rw all (sym (first-append_none (f x) (flat_map f ys) none))

  -- what is made of an item goes behind what was made before it
  pub made_more : (old new : List Y) → new ≡ old ++ f x → new ++ flat_map f ys ≡ old ++ flat_map f xs
  made_more old new new_is = rw (all, new_is) (append_assoc old (f x) (flat_map f ys))
