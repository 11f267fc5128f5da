-- All elements of a list with one more.
use Rattle.std.proofs.Common.{List, [], ◌∷◌, ◌++◌, subst, arith, All}
use Rattle.std.proofs.lemmas.List.{get_or_append_left, length_push}
use Rattle.std.proofs.lemmas.List.Elements.{All-contains, Contains-push}

pub All-front : {A : Type 0} (P : A → Type 0) (xs : List A) (x : A) → All P (xs ++ x ∷ []) → All P xs
All-front {A = A} P xs x all = λ k d below. subst P (get_or_append_left xs (x ∷ []) d k below) (all k d (omega (arith, length_push xs x)))

pub All-last : {A : Type 0} (P : A → Type 0) (xs : List A) (x : A) → All P (xs ++ x ∷ []) → P x
All-last P xs x all = All-contains P (xs ++ x ∷ []) x all (Contains-push xs x)
