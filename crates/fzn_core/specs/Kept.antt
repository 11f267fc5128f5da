-- Steps in place of others: they are accepted with the same answer, and are no more.
use Rattle.std.specs.Prelude.{◌≡◌, ◌≤◌, List, length, Option, Some, None}
use Rattle.fzn_meaning.specs.declared.model.Model.{Model}
use Rattle.fzn_cert.specs.declared.step.Step.{Step}
use Rattle.fzn_cert.specs.declared.step.Version.TheVariants.{Two}
use Rattle.fzn_cert.specs.Accepted.{AllAccepted, past_after}
use Rattle.fzn_cert.specs.Verdict.{AllHaveLines, MayEnd}
use Rattle.fzn_checker.specs.declared.hold.Held.{Held}
use Rattle.fzn_core.specs.declared.kept.Kept.{Kept}
use Rattle.fzn_core.specs.declared.plan.Plan.{Plan}
use Rattle.fzn_core.specs.Planned.{planned}

-- those of the plan, where there is one, and else those that are held
abbrev pub kept_by : Option Plan → List Step → List Step
kept_by None held = held
kept_by (Some plan) held = planned plan held

abbrev pub kept_steps : Kept → List Step
kept_steps kept = kept_by kept.plan kept.held

pub record IsTrimOf (model : Model) (held : Held) (steps : List Step) : Type 0 where
  pub accepted : AllAccepted model steps
  pub found : (past_after model steps).solutions ≡ held.solutions.items
  pub may_end : MayEnd (past_after model steps) held.closed
  pub lines : AllHaveLines Two 0 steps
  pub fewer : length steps ≤ length held.steps
