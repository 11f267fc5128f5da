-- Steps that are held as the text of their lines.
use Rattle.std.specs.Prelude.{◌≡◌, ℕ, ◌+◌, ◌-◌, List, [], ◌∷◌, length, slice_range}
use Rattle.std.specs.List.{AllByRecursion, filter_map}
use Rattle.fzn_cert.specs.declared.step.Step.{Step}
use Rattle.fzn_cert.specs.declared.step.Version.TheVariants.{Two}
use Rattle.fzn_cert.specs.Spelling.{step_line, IsSpelled}
use Rattle.fzn_cert.specs.Reading.{step_of}
use Rattle.fzn_cert.specs.Verdict.{lines_of}

-- the lines of a text without their line feeds; the first begins at this place, and each ends behind its line feed
abbrev pub lines_from : List ℕ → ℕ → List ℕ → List (List ℕ)
lines_from text start [] = []
lines_from text start (end ∷ ends) = slice_range text start (end - 1) ∷ lines_from text end ends

-- the steps that version 2 spells so
unfoldable pub steps_spelled : List ℕ → List ℕ → List Step
steps_spelled text ends = filter_map (λ line. step_of Two line) (lines_from text 0 ends)

-- where the lines of these steps end, the first beginning at this place
abbrev pub ends_from : ℕ → List Step → List ℕ
ends_from start [] = []
ends_from start (step ∷ steps) = (start + length (step_line step)) ∷ ends_from (start + length (step_line step)) steps

-- the text is the lines of these steps, one after another, and they end there
pub record IsScript (text ends : List ℕ) (steps : List Step) : Type 0 where
  pub spelled : AllByRecursion (IsSpelled Two) steps
  pub lines : text ≡ lines_of steps
  pub places : ends ≡ ends_from 0 steps
