-- Which steps are accepted, given the model and what came before, and what is wrong with the others.
use Rattle.std.specs.Prelude.{ℕ, ◌-◌, ◌≤◌, ◌≡◌, true, List, [], ◌∷◌, length, slice_get, IfSome, MatchOption, Option}
use Rattle.std.specs.List.{All, fold}
use Rattle.fzn_domain.specs.declared.literal.Lit.{Lit}
use Rattle.fzn_domain.specs.IntSet.{IntSet}
use Rattle.fzn_domain.specs.Narrow.{IsClauseOver, denied, is_some_empty, chain_outcome, not_unit, no_conflict, IsAcceptedFrom}
use Rattle.fzn_meaning.specs.declared.model.Model.{Model}
use Rattle.fzn_meaning.specs.Solutions.{declared_sets, IsSolution, PassesCuts, cut_of}
use Rattle.fzn_rules.specs.declared.rule.Rule.{Rule}
use Rattle.fzn_rules.specs.Rules.{IsAcceptedBy}
use Rattle.fzn_cert.specs.declared.step.Step.{Step}
use Rattle.fzn_cert.specs.declared.step.Step.TheVariants.{Infer, Resolve, Solution, Delete}
use Rattle.fzn_cert.specs.declared.refusal.Refusal.{Refusal}
use Rattle.fzn_cert.specs.declared.refusal.Refusal.TheVariants.{NoSuchConstraint, RuleFails, NoSuchClause, NotUnit, NoConflict, NotASolution, CutByEarlier, NoSuchVariable}
use Rattle.fzn_cert.specs.Past.{StepsPast, no_past, IsClauseHeld, clauses_held, after_clause, after_solution, after_deletion}

-- every variable of the clause is one of the model's
abbrev pub HasVariables : Model → List Lit → Type 0
HasVariables model clause = IsClauseOver (length model.vars) clause

-- the declared sets without the values that make the clause true
abbrev pub denying : Model → List Lit → List IntSet
denying model clause = denied (declared_sets model.vars) clause

-- one of these sets is empty, so every assignment makes the clause true
abbrev pub IsTrivial : Model → List Lit → Type 0
IsTrivial model clause = is_some_empty (denying model clause) ≡ true

-- constraints are numbered from 1
abbrev pub IsConstraintNumber : Model → ℕ → Type 0
IsConstraintNumber model c = (1 ≤ c) × (c ≤ length model.constraints)

-- the clause is accepted from the numbered constraint, by the rule
abbrev pub IsInferredBy : Model → ℕ → Rule → List Lit → Type 0
IsInferredBy model c rule clause =
    IfSome (slice_get model.constraints (c - 1)) (λ constraint. IsAcceptedBy constraint rule (declared_sets model.vars) clause)

-- A step from a constraint, one from clauses, a solution, a deletion.
abbrev pub IsAccepted : Model → StepsPast → Step → Type 0
IsAccepted model past (Infer it) = HasVariables model it.clause × IsConstraintNumber model it.constraint × IsInferredBy model it.constraint it.rule it.clause
IsAccepted model past (Resolve clause ids) =
    HasVariables model clause × All (IsClauseHeld past) ids × IsAcceptedFrom (declared_sets model.vars) clause (clauses_held past ids)
IsAccepted model past (Solution values) = IsSolution model values × PassesCuts model past.solutions values
IsAccepted model past (Delete ids) = All (IsClauseHeld past) ids

-- What is wrong with a step that is not accepted. The tests come in the order in which the parts stand.
abbrev pub HasFault : Model → StepsPast → Step → Refusal → Type 0
HasFault model past (Infer it) NoSuchVariable = ¬ HasVariables model it.clause
HasFault model past (Infer it) NoSuchConstraint = HasVariables model it.clause × ¬ IsConstraintNumber model it.constraint
HasFault model past (Infer it) RuleFails =
    HasVariables model it.clause × IsConstraintNumber model it.constraint × ¬ IsInferredBy model it.constraint it.rule it.clause
HasFault model past (Resolve clause ids) NoSuchVariable = ¬ HasVariables model clause
HasFault model past (Resolve clause ids) NoSuchClause = HasVariables model clause × ¬ All (IsClauseHeld past) ids
HasFault model past (Resolve clause ids) NotUnit =
    HasVariables model clause × All (IsClauseHeld past) ids × ¬ IsTrivial model clause
    × (chain_outcome (denying model clause) (clauses_held past ids) ≡ not_unit)
HasFault model past (Resolve clause ids) NoConflict =
    HasVariables model clause × All (IsClauseHeld past) ids × ¬ IsTrivial model clause
    × (chain_outcome (denying model clause) (clauses_held past ids) ≡ no_conflict)
HasFault model past (Solution values) NotASolution = ¬ IsSolution model values
HasFault model past (Solution values) CutByEarlier = IsSolution model values × ¬ PassesCuts model past.solutions values
HasFault model past (Delete ids) NoSuchClause = ¬ All (IsClauseHeld past) ids
HasFault model past _ _ = ⊥

-- no fault says that the step is accepted
abbrev pub IsJudged : Model → StepsPast → Step → Option Refusal → Type 0
IsJudged model past step fault = MatchOption fault (IsAccepted model past step) (HasFault model past step)

-- what an accepted step leaves
abbrev pub after_step : Model → StepsPast → Step → StepsPast
after_step model past (Infer it) = after_clause past it.clause
after_step model past (Resolve clause ids) = after_clause past clause
after_step model past (Solution values) = after_solution past (cut_of model values) values
after_step model past (Delete ids) = after_deletion past ids

-- what a list of steps leaves
abbrev pub past_after : Model → List Step → StepsPast
past_after model steps = fold (after_step model) no_past steps

-- each step is accepted after those before it, where this is what came before them all
abbrev pub AllAcceptedAfter : Model → StepsPast → List Step → Type 0
AllAcceptedAfter model past [] = Unit {0}
AllAcceptedAfter model past (step ∷ later) = IsAccepted model past step × AllAcceptedAfter model (after_step model past step) later

abbrev pub AllAccepted : Model → List Step → Type 0
AllAccepted model steps = AllAcceptedAfter model no_past steps
