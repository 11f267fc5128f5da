-- Why an accepted certificate can be believed.
use Rattle.std.specs.Prelude.{◌≡◌, true, List, ℤ, IfSome, length}
use Rattle.std.specs.List.{All, AllPairs}
use Rattle.fzn_domain.specs.Narrow.{IsClauseOver, is_clause_true}
use Rattle.fzn_meaning.specs.declared.model.Model.{Model}
use Rattle.fzn_meaning.specs.Solutions.{IsSolution, PassesCuts, cut_of}
use Rattle.fzn_cert.specs.Past.{StepsPast}

-- Every solution at which all cuts so far are true makes every held clause true, and there is none
-- once the empty clause was given.
pub record IsSound (model : Model) (past : StepsPast) : Type 0 where
  pub solutions : All (IsSolution model) past.solutions
  pub cuts : AllPairs (λ earlier later. is_clause_true later (cut_of model earlier) ≡ true) past.solutions
  pub variables : All (λ held. IfSome held (IsClauseOver (length model.vars))) past.clauses
  pub clauses : (a : List ℤ) → IsSolution model a → PassesCuts model past.solutions a → All (λ held. IfSome held (λ clause. is_clause_true a clause ≡ true)) past.clauses
  pub refuted : past.refuted ≡ true → (a : List ℤ) → IsSolution model a → PassesCuts model past.solutions a → ⊥
