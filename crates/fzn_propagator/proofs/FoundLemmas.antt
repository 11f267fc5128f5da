-- What was found grows clause by clause.
use Rattle.std.proofs.Common.{◌≡◌, ℕ, List, [], ◌∷◌, ◌++◌, refl, subst}
use Rattle.std.proofs.lemmas.List.Elements.{All-push}
use Rattle.fzn_domain.specs.declared.literal.Lit.{Lit}
use Rattle.fzn_meaning.specs.declared.constraint.Constraint.{Constraint}
use Rattle.fzn_rules.specs.declared.rule.Rule.{Rule}
use Rattle.fzn_trail.specs.Levels.{Levels}
use Rattle.fzn_cert.specs.declared.step.Inference.{Inference}
use Rattle.fzn_propagator.specs.Clause.{IsJustified}
use Rattle.fzn_propagator.specs.Inference.{HasWritableHints, IsNumberedInference, IsInferenceOf, AreFoundOf}

-- the clause, as it is handed over
abbrev pub inference_by : ℕ → Rule → List Lit → Inference
inference_by number rule clause = record { constraint = number; rule = rule; clause = clause }

pub inference_of : (trail : Levels) (number : ℕ) (constraint : Constraint) (rule : Rule) (clause : List Lit) → HasWritableHints rule → IsJustified trail constraint rule clause → IsNumberedInference number constraint trail (inference_by number rule clause)
inference_of trail number constraint rule clause hints justified = record { of_constraint = refl; hints = hints; justified = justified }

pub found_push : (number : ℕ) (constraint : Constraint) (trail : Levels) (found : List Inference) (rule : Rule) (clause : List Lit) → HasWritableHints rule → IsJustified trail constraint rule clause → AreFoundOf number constraint trail found → AreFoundOf number constraint trail (found ++ inference_by number rule clause ∷ [])
found_push number constraint trail found rule clause hints justified before = record {
  all = All-push (IsInferenceOf number (λ other. constraint ≡ other) trail) found (inference_by number rule clause) before.all
      (λ other same. subst (λ (x : Constraint). IsNumberedInference number x trail (inference_by number rule clause)) same (inference_of trail number constraint rule clause hints justified));
}
