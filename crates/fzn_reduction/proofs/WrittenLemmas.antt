-- What a test picks of a list.
use Rattle.std.proofs.Common.{Bool, true, false, List, [], ◌∷◌, All}
use Rattle.std.specs.List.{items_where_true}
use Rattle.std.proofs.lemmas.List.Elements.{All-nil, All-cons, All-head, All-tail}

-- what is true of each element is true of those that are picked
pub All-picked : {X : Type 0} (P : X → Type 0) (picks : List Bool) (xs : List X) → All P xs → All P (items_where_true picks xs)
All-picked P [] xs all = All-nil P
All-picked P (pick ∷ picks) [] all = All-nil P
All-picked P (true ∷ picks) (x ∷ xs) all = All-cons P x (items_where_true picks xs) (All-head P x xs all) (All-picked P picks xs (All-tail P x xs all))
All-picked P (false ∷ picks) (x ∷ xs) all = All-picked P picks xs (All-tail P x xs all)
