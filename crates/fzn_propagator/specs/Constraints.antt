-- What an inference promises, and what it means that there is none.
use Rattle.std.specs.Prelude.{ℤ, List, length}
use Rattle.std.specs.List.{All}
use Rattle.fzn_meaning.specs.declared.model.Model.{Model}
use Rattle.fzn_meaning.specs.Meaning.{Meets}
use Rattle.fzn_cert.specs.declared.step.Step.TheVariants.{Infer}
use Rattle.fzn_cert.specs.declared.step.Version.TheVariants.{One}
use Rattle.fzn_cert.specs.Accepted.{IsConstraintNumber, IsInferredBy}
use Rattle.fzn_cert.specs.Spelling.{IsSpelled}
use Rattle.fzn_domain.specs.Narrow.{AllFixed, IsClauseOver, IsWithin}
use Rattle.fzn_trail.specs.Levels.{Levels}
use Rattle.fzn_trail.specs.Unit.{IsFalseOrUnit}
use Rattle.fzn_cert.specs.declared.step.Inference.{Inference}

-- the clause is justified by the rule
pub record IsInferenceJustified (model : Model) (inference : Inference) : Type 0 where
  pub over : IsClauseOver (length model.vars) inference.clause
  pub numbered : IsConstraintNumber model inference.constraint
  pub justified : IsInferredBy model inference.constraint inference.rule inference.clause
  pub spelled : IsSpelled One (Infer inference)

-- and is false or forces one literal on the trail
pub record IsInference (model : Model) (trail : Levels) (inference : Inference) : Type 0 where
  pub stands : IsInferenceJustified model inference
  pub forces : IsFalseOrUnit trail.sets inference.clause

-- where each variable has one value, these values meet every constraint
abbrev pub IsQuiet : Model → Levels → Type 0
IsQuiet model trail = AllFixed trail.sets → (values : List ℤ) → IsWithin trail.sets values → All (λ constraint. Meets constraint values) model.constraints
