-- What one pass over a sum finds.
use Rattle.std.specs.Prelude.{◌≡◌, ◌++◌, [], ℕ, List}
use Rattle.fzn_domain.specs.declared.literal.Lit.{Lit}
use Rattle.fzn_meaning.specs.declared.constraint.Constraint.{Constraint}
use Rattle.fzn_builtin_rules.specs.Form.{Form}
use Rattle.fzn_trail.specs.Levels.{Levels}
use Rattle.fzn_propagator.specs.Inference.{Inference, AreFoundOf}
use Rattle.fzn_linear.specs.declared.form.SumForm.{SumForm}
use Rattle.fzn_sum.specs.declared.inequality.Inequality.{Inequality}
use Rattle.fzn_linear.specs.declared.pass.Pass.{Pass}
use Rattle.fzn_linear.specs.declared.side.Side.{Side}
use Rattle.fzn_sum.specs.Explained.{Exceeds}
use Rattle.fzn_linear.specs.Kinds.{form_of_sum, IsFormOf}
use Rattle.fzn_sum.specs.Refuted.{RulesOut, IsRefutation}
use Rattle.fzn_linear.specs.Sum.{IsFound}
use Rattle.fzn_linear.specs.Switched.{guard_of}

-- what is found are inferences of each constraint of this form of which what was found before are, and nothing is taken out
pub record AddsInferences (number : ℕ) (sum : SumForm) (trail : Levels) (before after : List Inference) : Type 0 where
  pub still : (constraint : Constraint) → IsFormOf constraint sum → AreFoundOf number constraint trail before → AreFoundOf number constraint trail after
  pub kept : after ≡ [] → before ≡ []

abbrev pub AddsFound : Pass → List Inference → List Inference → Type 0
AddsFound pass before after = AddsInferences pass.number pass.form.now pass.trail.now before after

-- a clause that is false or forces one literal, and rules out what the form says of its sum
abbrev pub IsFormRefuted : Levels → Form → List Lit → Type 0
IsFormRefuted trail found clause = IsRefutation trail found.comparison found.places found.bound clause

-- with the literal that the switch has another value behind it, the clause is an inference
abbrev pub IsInferredGuarded : Side → List Lit → Type 0
IsInferredGuarded side clause = IsFound side.pass.trail.now (form_of_sum side.pass.form.now) (clause ++ guard_of side.pass.form.now.switch side.on)

-- an inequality on the trail of the side: what rules it out rules out the side
pub record IsBoundOfSide (side : Side) (part : Inequality) : Type 0 where
  pub trail_is : part.trail.now ≡ side.pass.trail.now
  pub rules_out : (trail : Levels) (clause : List Lit) → Exceeds trail clause part.places.now part.bound → RulesOut trail clause side.sum.now.comparison side.sum.now.places side.sum.now.bound
