-- A trivial clause is accepted from any constraint.
use Rattle.std.proofs.Common.{ℕ, ◌-◌, List, Option, Some, None, slice_get, IfSome, inl}
use Rattle.fzn_domain.specs.declared.literal.Lit.{Lit}
use Rattle.fzn_meaning.specs.declared.constraint.Constraint.{Constraint}
use Rattle.fzn_meaning.specs.declared.model.Model.{Model}
use Rattle.fzn_meaning.specs.Solutions.{declared_sets}
use Rattle.fzn_rules.specs.declared.rule.Rule.{Rule}
use Rattle.fzn_rules.specs.Rules.{IsAcceptedBy}
use Rattle.fzn_cert.specs.Accepted.{IsTrivial, IsInferredBy}

pub justified-trivial : (model : Model) (c : ℕ) (rule : Rule) (clause : List Lit) → IsTrivial model clause → IsInferredBy model c rule clause
justified-trivial model c rule clause trivial = at_option (slice_get model.constraints (c - 1))
  where
    at_option : (found : Option Constraint) → IfSome found (λ constraint. IsAcceptedBy constraint rule (declared_sets model.vars) clause)
    at_option None = tt
    at_option (Some constraint) = inl trivial
