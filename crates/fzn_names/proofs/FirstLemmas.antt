-- The first of a list of faults, part by part.
use Rattle.std.proofs.Common.{◌≡◌, List, [], ◌∷◌, ◌++◌, Some, None, refl}
use Rattle.fzn_lexer.specs.declared.fault.FaultKind.{FaultKind}
use Rattle.fzn_lexer.specs.declared.token.Position.{Position}
use Rattle.fzn_names.specs.Positions.{first, at}

module _ {A : Type 0} where
  -- behind a list without a first one, the rest decides
  pub first-append_none : (xs ys : List A) → first xs ≡ None → first (xs ++ ys) ≡ first ys
  first-append_none [] ys none = refl
  first-append_none (x ∷ xs) ys none = cc

  pub first-append_some : (xs ys : List A) (x : A) → first xs ≡ Some x → first (xs ++ ys) ≡ Some x
  first-append_some [] ys x some = cc
  first-append_some (y ∷ xs) ys x some = some

  -- a list without a first one is empty
  pub empty-first : (xs : List A) → first xs ≡ None → xs ≡ []
  empty-first [] none = refl
  empty-first (x ∷ xs) none = cc

  pub left_empty : (xs ys : List A) → xs ++ ys ≡ [] → xs ≡ []
  left_empty [] ys e = refl
  left_empty (x ∷ xs) ys e = cc

  pub right_empty : (xs ys : List A) → xs ++ ys ≡ [] → ys ≡ []
  right_empty [] ys e = e
  right_empty (x ∷ xs) ys e = cc

pub first-at_none : (kind : FaultKind) (positions : List Position) → first positions ≡ None → first (at kind positions) ≡ None
first-at_none kind [] none = refl
first-at_none kind (position ∷ positions) none = cc

pub first-at_some : (kind : FaultKind) (positions : List Position) (position : Position) → first positions ≡ Some position → first (at kind positions) ≡ Some (record { kind = kind; position = position })
first-at_some kind [] position some = cc
first-at_some kind (other ∷ positions) position some = let same : other ≡ position = cc in rw same refl

pub at-empty : (kind : FaultKind) (positions : List Position) → at kind positions ≡ [] → positions ≡ []
at-empty kind [] e = refl
at-empty kind (position ∷ positions) e = cc

pub ruleset firsts = (first-append_none, first-append_some, empty-first, first-at_none, first-at_some)
