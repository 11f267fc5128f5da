-- Why an answer follows from the constraints that its steps infer from.
use Rattle.std.proofs.Common.{◌≡◌, ℕ, ◌+◌, ◌-◌, ◌≤◌, Bool, true, false, List, [], ◌∷◌, ℤ, length, get_or, Option, Some, IfSome, slice_get, refl, ap, subst, sym, ◌∙◌, arith, inl, inr}
use Rattle.std.specs.Prelude.{Contains, ◌↔◌}
use Rattle.std.specs.List.{All, filter_map, fold}
use Rattle.std.specs.List.Sorted.{IsStrictlyIncreasing}
use Rattle.std.proofs.lemmas.List.Elements.{All-nil, All-cons, All-head, All-tail, All-contains, Contains-get_or}
use Rattle.std.proofs.lemmas.Option.{slice_get_cases, slice_get-get_or}
use Rattle.fzn_meaning.specs.declared.constraint.Constraint.{Constraint}
use Rattle.fzn_meaning.specs.declared.model.Model.{Model}
use Rattle.fzn_meaning.specs.Meaning.{Meets, HasBooleanSets, IsWellFormedConstraint}
use Rattle.fzn_meaning.specs.Solutions.{declared_sets, IsExhausted}
use Rattle.fzn_meaning.specs.WellFormed.{IsWellFormed}
use Rattle.fzn_derive.specs.declared.derivation.Derivation.{Derivation}
use Rattle.fzn_rules.specs.Rules.{IsAcceptedBy}
use Rattle.fzn_cert.specs.declared.step.Inference.{Inference}
use Rattle.fzn_cert.specs.declared.step.Step.{Step}
use Rattle.fzn_cert.specs.declared.step.Step.TheVariants.{Infer, Resolve, Solution, Delete}
use Rattle.fzn_cert.specs.Past.{StepsPast, no_past}
use Rattle.fzn_cert.specs.Accepted.{IsAccepted, IsConstraintNumber, AllAcceptedAfter, AllAccepted, after_step, past_after}
use Rattle.fzn_cert.specs.Sound.{IsSound}
use Rattle.fzn_cert.proofs.SoundLaws.{sound-start, sound-after, exhausted-sound}
use Rattle.fzn_head.specs.Extended.{Extends}
use Rattle.fzn_checker.specs.declared.hold.Held.{Held}
use Rattle.fzn_core.specs.Kept.{IsTrimOf}
use Rattle.fzn_core.specs.Core.{only, inferred_from, IsNeeded, IsCore}
use Rattle.fzn_core.proofs.ListLemmas.{picked-all, picked-contains, picked-few}
use Rattle.fzn_core.proofs.NeededLemmas.{needed-same, needed-exhausted}

-- ---- the numbers

-- accepted steps infer from constraints of the model
cited-within : (model : Model) (past : StepsPast) (steps : List Step) → AllAcceptedAfter model past steps → All (IsConstraintNumber model) (filter_map inferred_from steps)
cited-within model past [] accepted = All-nil (IsConstraintNumber model)
cited-within model past (Infer it ∷ steps) accepted =
    All-cons (IsConstraintNumber model) it.constraint (filter_map inferred_from steps) accepted.0.1 (cited-within model (after_step model past (Infer it)) steps accepted.1)
cited-within model past (Resolve clause ids ∷ steps) accepted = cited-within model (after_step model past (Resolve clause ids)) steps accepted.1
cited-within model past (Solution values ∷ steps) accepted = cited-within model (after_step model past (Solution values)) steps accepted.1
cited-within model past (Delete ids ∷ steps) accepted = cited-within model (after_step model past (Delete ids)) steps accepted.1

module _ (model : Model) (numbers : List ℕ) (wf : IsWellFormed model) (rising : IsStrictlyIncreasing numbers) (within : All (IsConstraintNumber model) numbers) where
  -- ---- the model with these constraints alone

  formed : IsWellFormed (only model numbers)
  formed = record {
    constraints = picked-all model.constraints (IsWellFormedConstraint (length model.vars)) numbers wf.constraints;
    booleans = picked-all model.constraints (HasBooleanSets (declared_sets model.vars)) numbers wf.booleans;
    goal = wf.goal;
    outputs = wf.outputs;
    rising = wf.rising;
    shown = wf.shown;
    values = wf.values;
    few_vars = wf.few_vars;
    few_constraints = omega (arith, picked-few model.constraints numbers rising within, wf.few_constraints);
  }

  -- what is inferred from one of them is so too where it has another number
  infer-alone : (past : StepsPast) (it : Inference) → IsAccepted model past (Infer it) → Contains numbers it.constraint → (k : ℕ) × IsAccepted (only model numbers) past (Infer (record it { constraint = k }))
  infer-alone past it accepted listed =
      elim (slice_get_cases model.constraints (it.constraint - 1)).1 [
        | inl (constraint, inside, is, at) ↦
            let Accepts : Option Constraint → Type 0 = λ o. IfSome o (λ k. IsAcceptedBy k it.rule (declared_sets model.vars) it.clause) in
            let held = picked-contains model.constraints numbers it.constraint constraint accepted.1.0 listed is in
            let alone = (only model numbers).constraints in
            let here : slice_get alone held.0 ≡ Some constraint = slice_get-get_or alone held.0 constraint held.1 ∙ ap (λ (k : Constraint). Some k) held.2 in
            let place : held.0 + 1 - 1 ≡ held.0 = omega arith in
            (held.0 + 1, (accepted.0, (omega arith, omega (arith, held.1)), subst (λ (i : ℕ). Accepts (slice_get alone i)) (sym place) (subst Accepts (sym here) (subst Accepts is accepted.2))))
        | inr past_end ↦ absurd (omega (arith, past_end.0, accepted.1.0, accepted.1.1))
      ]

  -- ---- accepted steps are sound for it

  sound-step : (past : StepsPast) (step : Step) → IsSound (only model numbers) past → IsAccepted model past step → All (Contains numbers) (filter_map inferred_from (step ∷ [])) → IsSound (only model numbers) (after_step model past step)
  sound-step past (Infer it) sound accepted listed =
      let alone = infer-alone past it accepted (listed 0 it.constraint (omega arith)) in
      sound-after (only model numbers) past (Infer (record it { constraint = alone.0 })) formed sound alone.1
  sound-step past (Resolve clause ids) sound accepted listed = sound-after (only model numbers) past (Resolve clause ids) formed sound accepted
  sound-step past (Solution values) sound accepted listed =
      sound-after (only model numbers) past (Solution values) formed sound ((accepted.0.0, picked-all model.constraints (λ k. Meets k values) numbers accepted.0.1), accepted.1)
  sound-step past (Delete ids) sound accepted listed = sound-after (only model numbers) past (Delete ids) formed sound accepted

  -- the first step's number, and those of the others
  first-listed : (step : Step) (steps : List Step) → All (Contains numbers) (filter_map inferred_from (step ∷ steps)) → All (Contains numbers) (filter_map inferred_from (step ∷ [])) × All (Contains numbers) (filter_map inferred_from steps)
  first-listed (Infer it) steps h =
      (All-cons (Contains numbers) it.constraint [] (All-head (Contains numbers) it.constraint (filter_map inferred_from steps) h) (All-nil (Contains numbers)), All-tail (Contains numbers) it.constraint (filter_map inferred_from steps) h)
  first-listed (Resolve clause ids) steps h = (All-nil (Contains numbers), h)
  first-listed (Solution values) steps h = (All-nil (Contains numbers), h)
  first-listed (Delete ids) steps h = (All-nil (Contains numbers), h)

  sound-steps : (past : StepsPast) (steps : List Step) → IsSound (only model numbers) past → AllAcceptedAfter model past steps → All (Contains numbers) (filter_map inferred_from steps) → IsSound (only model numbers) (fold (after_step model) past steps)
  sound-steps past [] sound accepted listed = sound
  sound-steps past (step ∷ steps) sound accepted listed =
      let parts = first-listed step steps listed in
      sound-steps (after_step model past step) steps (sound-step past step sound accepted.0 parts.0) accepted.1 parts.1

-- ---- the core

steps-exhausted : (model : Model) (steps : List Step) (found : List (List ℤ)) (numbers : List ℕ) → IsWellFormed model → AllAccepted model steps → (past_after model steps).solutions ≡ found → (past_after model steps).refuted ≡ true
    → ((number : ℕ) → Contains numbers number ↔ Contains (filter_map inferred_from steps) number) → IsStrictlyIncreasing numbers → IsExhausted (only model numbers) found
steps-exhausted model steps found numbers wf accepted found_are refuted cited rising =
    let all_cited = filter_map inferred_from steps in
    let cited_within : All (IsConstraintNumber model) all_cited = cited-within model no_past steps accepted in
    let within : All (IsConstraintNumber model) numbers =
    λ k d lt. All-contains (IsConstraintNumber model) all_cited (get_or numbers k d) cited_within ((cited (get_or numbers k d)).0 (Contains-get_or numbers k d lt)) in
    let listed : All (Contains numbers) all_cited = λ k d lt. (cited (get_or all_cited k d)).1 (Contains-get_or all_cited k d lt) in
    let sound : IsSound (only model numbers) (past_after model steps) = sound-steps model numbers wf rising within no_past steps (sound-start (only model numbers)) accepted listed in
    subst (IsExhausted (only model numbers)) found_are (exhausted-sound (only model numbers) (past_after model steps) sound refuted)

-- the cited numbers of a list are those of the steps, so what is needed for them is needed for these
pub closed-core : (model after : Model) (read : List Derivation) (held : Held) (kept : List Step) (own : ℕ) (cites numbers : List ℕ) → IsWellFormed model → IsWellFormed after → Extends model read after → own ≡ length model.constraints → held.closed ≡ true → IsTrimOf after held kept
    → ((number : ℕ) → Contains cites number ↔ Contains (filter_map inferred_from kept) number) → IsStrictlyIncreasing cites
    → ((number : ℕ) → Contains numbers number ↔ ((1 ≤ number) × (number ≤ own) × IsNeeded own read cites number)) → IsStrictlyIncreasing numbers → IsCore model after read held.solutions.items held.closed numbers
closed-core model after read held kept own cites numbers wf formed extends own_is closed trim cited cites_rise needed rising =
    let count = length model.constraints in
    let here : (number : ℕ) → Contains numbers number ↔ ((1 ≤ number) × (number ≤ count) × IsNeeded count read cites number) =
    subst (λ (n : ℕ). (number : ℕ) → Contains numbers number ↔ ((1 ≤ number) × (number ≤ n) × IsNeeded n read cites number)) own_is needed in
    let exhausted = steps-exhausted after kept held.solutions.items cites formed trim.accepted trim.found (trim.may_end closed) cited cites_rise in
    subst (λ (b : Bool). IsCore model after read held.solutions.items b numbers) (sym closed) (record {
      extends = extends;
      steps = kept;
      accepted = trim.accepted;
      solutions = trim.found;
      refuted = trim.may_end closed;
      needed = λ n. (
        λ listed. let h = (here n).0 listed in (h.0, h.1, needed-same count read cites (filter_map inferred_from kept) n (λ m. (cited m).0) h.2),
        λ h. (here n).1 (h.0, h.1, needed-same count read (filter_map inferred_from kept) cites n (λ m. (cited m).1) h.2),
      );
      rising = rising;
      exhausted = needed-exhausted model after read numbers cites (record { formed = wf.constraints; booleans = wf.booleans }) extends here held.solutions.items exhausted;
    })

pub open-core : (model after : Model) (read : List Derivation) (found : List (List ℤ)) (closed : Bool) → closed ≡ false → IsCore model after read found closed []
open-core model after read found closed is = subst (λ (b : Bool). IsCore model after read found b []) (sym is) refl
