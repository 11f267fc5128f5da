-- One more step at the end of accepted ones.
use Rattle.std.proofs.Common.{◌≡◌, ℕ, ◌+◌, ◌-◌, ◌⊎◌, inl, inr, List, [], ◌∷◌, ◌++◌, length, set, Some, None, Option, fold, refl, sym, ap, ◌∙◌, subst, arith}
use Rattle.std.proofs.lemmas.List.{length_push, length-set}
use Rattle.std.proofs.lemmas.List.Sums.{fold-append}
use Rattle.fzn_domain.specs.declared.literal.Lit.{Lit}
use Rattle.fzn_meaning.specs.declared.model.Model.{Model}
use Rattle.fzn_meaning.specs.Solutions.{cut_of}
use Rattle.fzn_cert.specs.declared.step.Step.{Step}
use Rattle.fzn_cert.specs.declared.step.Step.TheVariants.{Infer, Resolve, Solution, Delete}
use Rattle.fzn_cert.specs.Past.{StepsPast, no_past, without}
use Rattle.fzn_cert.specs.Accepted.{IsAccepted, after_step, past_after, AllAcceptedAfter, AllAccepted}
use Rattle.fzn_state.specs.Learned.{resolved}

pub past_after-push : (model : Model) (steps : List Step) (step : Step) → past_after model (steps ++ step ∷ []) ≡ after_step model (past_after model steps) step
past_after-push model steps step = fold-append (after_step model) no_past steps (step ∷ [])

AllAcceptedAfter-push : (model : Model) (past : StepsPast) (steps : List Step) (step : Step) → AllAcceptedAfter model past steps → IsAccepted model (fold (after_step model) past steps) step → AllAcceptedAfter model past (steps ++ step ∷ [])
AllAcceptedAfter-push model past [] step h k = (k, tt)
AllAcceptedAfter-push model past (first ∷ steps) step h k = (h.0, AllAcceptedAfter-push model (after_step model past first) steps step h.1 k)

pub AllAccepted-push : (model : Model) (steps : List Step) (step : Step) → AllAccepted model steps → IsAccepted model (past_after model steps) step → AllAccepted model (steps ++ step ∷ [])
AllAccepted-push model steps step h k = AllAcceptedAfter-push model no_past steps step h k

pub resolved-append : (xs ys : List Step) → resolved (xs ++ ys) ≡ resolved xs ++ resolved ys
resolved-append [] ys = refl
resolved-append (Infer it ∷ xs) ys = resolved-append xs ys
resolved-append (Resolve clause ids ∷ xs) ys = ap (λ (cs : List (List Lit)). clause ∷ cs) (resolved-append xs ys)
resolved-append (Solution values ∷ xs) ys = resolved-append xs ys
resolved-append (Delete ids ∷ xs) ys = resolved-append xs ys

-- each step has one clause or none
length-without : (clauses : List (Option (List Lit))) (ids : List ℕ) → length (without clauses ids) ≡ length clauses
length-without clauses [] = refl
length-without clauses (id ∷ ids) = length-without (set clauses (id - 1) None) ids ∙ length-set clauses (id - 1) None

length-after : (model : Model) (past : StepsPast) (step : Step) → length (after_step model past step).clauses ≡ length past.clauses + 1
length-after model past (Infer it) = length_push past.clauses (Some it.clause)
length-after model past (Resolve clause ids) = length_push past.clauses (Some clause)
length-after model past (Solution values) = length_push past.clauses (Some (cut_of model values))
length-after model past (Delete ids) = length_push (without past.clauses ids) None ∙ ap (λ (n : ℕ). n + 1) (length-without past.clauses ids)

length-fold : (model : Model) (past : StepsPast) (steps : List Step) → length (fold (after_step model) past steps).clauses ≡ length past.clauses + length steps
length-fold model past [] = omega arith
length-fold model past (step ∷ later) = omega (arith, length-fold model (after_step model past step) later, length-after model past step)

pub length-past_of : (model : Model) (steps : List Step) → length (past_after model steps).clauses ≡ length steps
length-past_of model steps = omega (arith, length-fold model no_past steps)

-- what a sink holds is accepted, whether or not it took one more accepted step
pub logged-accepted : (model : Model) (before now : List Step) (step : Step) → AllAccepted model before → IsAccepted model (past_after model before) step → (now ≡ before) ⊎ (now ≡ before ++ step ∷ []) → AllAccepted model now
logged-accepted model before now step all one (inl same) = let P : List Step → Type 0 = λ s. AllAccepted model s in subst P (sym same) all
logged-accepted model before now step all one (inr more) = let P : List Step → Type 0 = λ s. AllAccepted model s in subst P (sym more) (AllAccepted-push model before step all one)
