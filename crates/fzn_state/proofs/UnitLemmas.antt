-- A clause that stands for an entry of level 0.
use Rattle.std.proofs.Common.{◌≡◌, ℕ, ◌+◌, ◌^◌, ◌<◌, List, [], ◌∷◌, ◌++◌, length, sym, ap, ◌∙◌, subst, arith}
use Rattle.std.proofs.lemmas.List.{length_push}
use Rattle.fzn_domain.specs.declared.literal.Lit.{Lit}
use Rattle.fzn_meaning.specs.declared.model.Model.{Model}
use Rattle.fzn_cert.specs.declared.step.Step.{Step}
use Rattle.fzn_cert.specs.declared.step.Step.TheVariants.{Resolve}
use Rattle.fzn_reduction.specs.declared.notes.Notes.{Notes}
use Rattle.fzn_state.specs.declared.solver.Solver.{Solver}
use Rattle.fzn_state.specs.Changes.{IsReduced}
use Rattle.fzn_state.specs.Antecedents.{AreInferencesWritten}
use Rattle.fzn_state.proofs.ForgetLemmas.{nothing-reduced}

-- where the step before the last may be followed, there is room
pub room-before : (before now : List Step) (step : Step) → now ≡ before ++ step ∷ [] → length now < 10 ^ 18 → length before + 1 < 10 ^ 18
room-before before now step now_is few = omega (arith, ap length now_is, length_push before step, few)

-- the clause of a unit is held, whose antecedents were written before it
pub unit-reduced : {model : Model} {old mid held : Solver} {first before now : List Step} (clause : List Lit) (ids : List ℕ) → AreInferencesWritten model first old mid before → now ≡ before ++ Resolve clause ids ∷ [] → IsReduced model mid held (before ++ Resolve clause ids ∷ []) → (notes : Notes) → IsReduced model old (record held { notes = notes }) now
unit-reduced {model = model} {old = old} {held = held} clause ids w now_is t notes =
    let S : List Step → Type 0 = λ steps. IsReduced model old (record held { notes = notes }) steps in
    subst S (sym now_is) (record { state = (nothing-reduced t.state notes).state; trail = t.trail ∙ w.trail; tally = t.tally ∙ w.tally })
