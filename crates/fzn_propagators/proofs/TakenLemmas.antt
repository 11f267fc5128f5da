-- What is taken out of what was found.
use Rattle.std.proofs.Common.{◌≡◌, List, [], ◌∷◌, Option, None, Some, IfSome, IfNone, All, sym, subst}
use Rattle.std.proofs.lemmas.List.Elements.{All-nil, All-head, All-tail}

-- the first and the others of these, or none of none
module _ {X : Type 0} (P : X → Type 0) where
  pub first-taken : (first : Option X) (old new : List X) → IfSome first (λ x. old ≡ x ∷ new) → All P old → IfSome first P
  first-taken None old new some all = tt
  first-taken (Some x) old new some all = All-head P x new (subst (All P) some all)

  pub others-left : (first : Option X) (old new : List X) → IfSome first (λ x. old ≡ x ∷ new) → IfNone first ((old ≡ []) × (new ≡ [])) → All P old → All P new
  others-left None old new some none all = subst (All P) (sym none.1) (All-nil P)
  others-left (Some x) old new some none all = All-tail P x new (subst (All P) some all)

pub none-taken : {X : Type 0} (A : Type 0) (first : Option X) (old new : List X) → IfNone first ((old ≡ []) × (new ≡ [])) → (old ≡ [] → A) → IfNone first A
none-taken A None old new none so = so none.0
none-taken A (Some x) old new none so = tt
