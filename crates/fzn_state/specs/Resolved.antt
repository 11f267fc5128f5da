-- The learned clauses of a certificate, and when each of them is new.
use Rattle.std.specs.Prelude.{◌≡◌, true, false, ℤ, List, [], ◌∷◌, ◌++◌}
use Rattle.std.specs.List.{All}
use Rattle.fzn_domain.specs.declared.literal.Lit.{Lit}
use Rattle.fzn_domain.specs.IntSet.{IntSet}
use Rattle.fzn_domain.specs.Narrow.{IsWithin, is_clause_true}
use Rattle.fzn_cert.specs.declared.step.Step.{Step}
use Rattle.fzn_cert.specs.declared.step.Step.TheVariants.{Infer, Resolve, Solution, Delete}

-- the clauses of the `r` steps, in order
abbrev pub resolved : List Step → List (List Lit)
resolved [] = []
resolved (Infer it ∷ later) = resolved later
resolved (Resolve clause ids ∷ later) = clause ∷ resolved later
resolved (Solution values ∷ later) = resolved later
resolved (Delete ids ∷ later) = resolved later

-- an assignment at which the clause is false and those before it are true
pub record SaysMore (sets : List IntSet) (before : List (List Lit)) (clause : List Lit) : Type 0 where
  pub witness : List ℤ
  pub within : IsWithin sets witness
  pub true_before : All (λ earlier. is_clause_true witness earlier ≡ true) before
  pub fails : is_clause_true witness clause ≡ false

-- each clause is false at an assignment at which those before it are true
abbrev pub FreshAfter : List IntSet → List (List Lit) → List (List Lit) → Type 0
FreshAfter sets before [] = Unit {0}
FreshAfter sets before (clause ∷ later) = SaysMore sets before clause × FreshAfter sets (before ++ clause ∷ []) later
