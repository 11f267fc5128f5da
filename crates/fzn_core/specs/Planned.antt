-- The steps that a plan makes of those that are held.
use Rattle.std.specs.Prelude.{◌≡◌, ℕ, ◌-◌, true, List, [], map, slice_get, slice_index, slice_index_or, unwrap_or}
use Rattle.std.specs.List.{All}
use Rattle.fzn_cert.specs.declared.step.Step.{Step}
use Rattle.fzn_cert.specs.declared.step.Step.TheVariants.{Infer, Resolve, Solution, Delete}
use Rattle.fzn_cert.specs.Spelling.{IsNumber}
use Rattle.fzn_cert.specs.Reading.{is_deletion}
use Rattle.fzn_core.specs.declared.plan.Line.{Line}
use Rattle.fzn_core.specs.declared.plan.Line.TheVariants.{Keep, Deletion}
use Rattle.fzn_core.specs.declared.plan.Plan.{Plan}

-- the number of the line in which the step with this number stands, and 0 where it has none; steps are numbered from 1
abbrev pub new_number : List ℕ → ℕ → ℕ
new_number numbers id = slice_index numbers (id - 1)

-- the new number of the constraint with this one; constraints are numbered from 1, and those behind the end of the list keep their numbers
abbrev pub new_constraint : List ℕ → ℕ → ℕ
new_constraint constraints number = slice_index_or constraints (number - 1) number

-- the step with the new numbers of the constraint and of the clauses that it cites
abbrev pub renumbered : List ℕ → List ℕ → Step → Step
renumbered constraints numbers (Infer it) = Infer (record it { constraint = new_constraint constraints it.constraint })
renumbered constraints numbers (Resolve clause ids) = Resolve clause (map (new_number numbers) ids)
renumbered constraints numbers (Solution values) = Solution values
renumbered constraints numbers (Delete ids) = Delete ids

-- the step of a line; where none is held at its place, a deletion of nothing, which no version spells
abbrev pub planned_step : Plan → List Step → Line → Step
planned_step plan held (Keep place) = renumbered plan.constraints.items plan.numbers.items (unwrap_or (slice_get held place) (Delete []))
planned_step plan held (Deletion place) = Delete (unwrap_or (slice_get plan.deletions.items place) [])

-- those of all lines
abbrev pub planned : Plan → List Step → List Step
planned plan held = map (planned_step plan held) plan.lines.items

-- the constraint and the clauses that a step cites have numbers, and those of a deletion are some and rise
abbrev pub CitesNumbers : Step → Type 0
CitesNumbers (Infer it) = IsNumber it.constraint
CitesNumbers (Resolve clause ids) = All IsNumber ids
CitesNumbers (Solution values) = Unit {0}
CitesNumbers (Delete ids) = All IsNumber ids × (is_deletion ids ≡ true)
