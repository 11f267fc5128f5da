-- What stands in front of the steps of a trimmed certificate, and the steps behind it.
use Rattle.std.specs.Prelude.{◌≤◌, ℕ, List, length, Option, Some, None, option_map, string_bytes}
use Rattle.fzn_meaning.specs.declared.model.Model.{Model}
use Rattle.fzn_derive.specs.declared.derivation.Derivation.{Derivation}
use Rattle.fzn_cert.specs.declared.step.Step.{Step}
use Rattle.fzn_cert.specs.declared.step.Version.TheVariants.{Two}
use Rattle.fzn_checker.specs.declared.hold.Held.{Held}
use Rattle.fzn_checker.specs.Opened.{IsInFront}
use Rattle.fzn_core.specs.declared.kept.Kept.{Kept}
use Rattle.fzn_core.specs.Kept.{IsTrimOf}
use Rattle.fzn_trim.specs.Written.{front_of}

-- what stands in front of steps for the model that has the constraints which these derive: these lines, or the ones with these derivations
abbrev pub front_by : Model → List Derivation → Option (List ℕ) → List ℕ
front_by after read None = front_of after read
front_by after read (Some front) = front

-- the model has the constraints that the old certificate derives
abbrev pub kept_front : Model → Kept → List ℕ
kept_front after kept = front_by after kept.derivations.items (option_map string_bytes kept.front)

-- Behind this the steps are of a model with the constraints that are derived there, which has at most so many with the file's own; and for it
-- they stand in place of those that are held.
pub record IsTrimBehind (own : Model) (most : ℕ) (held : Held) (steps : List Step) (front : List ℕ) : Type 0 where
  pub left : Model
  pub opens : IsInFront own left Two front
  pub few : length left.constraints ≤ most
  pub trim : IsTrimOf left held steps
