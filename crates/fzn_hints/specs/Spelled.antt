-- The values of a hint.
use Rattle.std.specs.Prelude.{◌≡◌, ℕ, ℤ, List, Some}
use Rattle.fzn_cert.specs.declared.step.Step.TheVariants.{Solution}
use Rattle.fzn_cert.specs.declared.step.Version.TheVariants.{Two}
use Rattle.fzn_cert.specs.Reading.{step_of}

-- some line is the `s` line of these values, as certificates spell it
abbrev pub HaveSolutionLine : List ℤ → Type 0
HaveSolutionLine values = (line : List ℕ) × (step_of Two line ≡ Some (Solution values))
