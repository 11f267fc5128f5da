-- What a step must have to be judged, and how a chain's outcome is told.
use Rattle.std.specs.Prelude.{◌≡◌, Bool, Option, Some, None}
use Rattle.std.specs.List.{All}
use Rattle.fzn_domain.specs.Narrow.{ChainOutcome, accepted, not_unit, no_conflict, is_some_empty}
use Rattle.fzn_meaning.specs.declared.model.Model.{Model}
use Rattle.fzn_meaning.specs.Solutions.{declared_sets}
use Rattle.fzn_meaning.specs.WellFormed.{IsWellFormed}
use Rattle.fzn_sets.specs.Sets.{Narrowed, start}
use Rattle.fzn_sets.specs.Link.{IsBound}
use Rattle.fzn_cert.specs.declared.step.Step.{Step}
use Rattle.fzn_cert.specs.declared.step.Step.TheVariants.{Infer, Resolve, Solution, Delete}
use Rattle.fzn_cert.specs.declared.refusal.Refusal.{Refusal}
use Rattle.fzn_cert.specs.declared.refusal.Refusal.TheVariants.{NotUnit, NoConflict}
use Rattle.fzn_cert.specs.Past.{StepsPast}
use Rattle.fzn_cert.specs.Sound.{IsSound}

-- What a step is judged on: a model, what sound steps left, the declared sets, and whether one of them is empty.
pub record IsJudgedOn (model : Model) (past : StepsPast) (sets : Narrowed) (has_empty : Bool) : Type 0 where
  pub well_formed : IsWellFormed model
  pub sound : IsSound model past
  pub fresh : sets ≡ start (declared_sets model.vars)
  pub empty : has_empty ≡ is_some_empty (declared_sets model.vars)

-- the numbers of the step's literals are in their range
abbrev pub HasLitsInRange : Step → Type 0
HasLitsInRange (Infer it) = All IsBound it.clause
HasLitsInRange (Resolve clause ids) = All IsBound clause
HasLitsInRange (Solution values) = Unit {0}
HasLitsInRange (Delete ids) = Unit {0}

-- what is wrong with a chain of this outcome
abbrev pub chain_fault : ChainOutcome → Option Refusal
chain_fault accepted = None
chain_fault not_unit = Some NotUnit
chain_fault no_conflict = Some NoConflict
