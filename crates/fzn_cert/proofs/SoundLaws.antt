-- Accepted steps keep what came before sound, and what a sound past says of its solutions is true.
use Rattle.std.proofs.Common.{◌≡◌, ℕ, ◌-◌, ◌<◌, ◌≤◌, ◌==◌, List, [], ◌∷◌, ◌++◌, Bool, true, false, cond, Option, Some, None, IsSome, IfSome, unwrap_or, set, length, get_or, sym, ◌⊎◌, inl, inr, subst, ℤ, arith}
use Rattle.std.specs.List.{All, AllByRecursion, fold}
use Rattle.std.proofs.lemmas.List.{get_or_past, length-map}
use Rattle.std.proofs.lemmas.List.Elements.{All-nil, All-push, All-set, recursion_from_All, All-from_recursion}
use Rattle.std.proofs.lemmas.List.Quantifiers.{all_pairs_push}
use Rattle.std.proofs.lemmas.Option.{slice_get_cases}
use Rattle.std.proofs.lemmas.Bool.{cases_lt, or_cases}
use Rattle.fzn_domain.specs.declared.literal.Lit.{Lit}
use Rattle.fzn_domain.specs.Narrow.{IsClauseOver, is_clause_true}
use Rattle.fzn_domain.proofs.NarrowLemmas.{accepted_sound}
use Rattle.fzn_meaning.specs.declared.constraint.Constraint.{Constraint}
use Rattle.fzn_meaning.specs.declared.model.Model.{Model}
use Rattle.fzn_meaning.specs.Meaning.{Meets, HasBooleanSets, IsWellFormedConstraint}
use Rattle.fzn_meaning.specs.Solutions.{declared_sets, IsSolution, IsProper, IsExhausted, PassesCuts, cut_of}
use Rattle.fzn_meaning.specs.WellFormed.{IsWellFormed}
use Rattle.fzn_meaning.proofs.CutLemmas.{cut_of-variables, bits-choice, proper-from_cuts, exhausted-from_cuts}
use Rattle.fzn_rules.specs.Rules.{IsAcceptedBy}
use Rattle.fzn_rules.proofs.CallerLemmas.{accepted_by_sound}
use Rattle.fzn_cert.specs.declared.step.Inference.{Inference}
use Rattle.fzn_cert.specs.declared.step.Step.{Step}
use Rattle.fzn_cert.specs.declared.step.Step.TheVariants.{Infer, Resolve, Solution, Delete}
use Rattle.fzn_cert.specs.Past.{StepsPast, no_past, clause_held, IsClauseHeld, clauses_held, is_empty_clause, after_clause, after_solution, without, after_deletion}
use Rattle.fzn_cert.specs.Accepted.{HasVariables, IsAccepted, AllAcceptedAfter, AllAccepted, after_step, past_after}
use Rattle.fzn_cert.specs.Sound.{IsSound}

-- as many sets as variables
count : (model : Model) → length (declared_sets model.vars) ≡ length model.vars
count model = length-map model.vars (λ var. var.domain)

over_sets : (model : Model) (clause : List Lit) → IsClauseOver (length model.vars) clause → IsClauseOver (length (declared_sets model.vars)) clause
over_sets model clause h = subst (λ n. IsClauseOver n clause) (sym (count model)) h

formed_sets : (model : Model) (constraint : Constraint) → IsWellFormedConstraint (length model.vars) constraint → IsWellFormedConstraint (length (declared_sets model.vars)) constraint
formed_sets model constraint h = subst (λ n. IsWellFormedConstraint n constraint) (sym (count model)) h

-- ---- the clause of an accepted step is true at every solution that passes the cuts so far

infer_true : (model : Model) (past : StepsPast) (it : Inference) (a : List ℤ) → IsWellFormed model → IsAccepted model past (Infer it) → IsSolution model a → is_clause_true a it.clause ≡ true
infer_true model past it a wf accepted solution =
    elim (slice_get_cases model.constraints (it.constraint - 1)).1 [
      | inl (constraint, within, is, at) ↦
          accepted_by_sound constraint it.rule (declared_sets model.vars) it.clause
          (formed_sets model constraint (subst (λ k. IsWellFormedConstraint (length model.vars) k) at (wf.constraints (it.constraint - 1) constraint within)))
          (over_sets model it.clause accepted.0)
          (subst (λ o. IfSome o (λ k. IsAcceptedBy k it.rule (declared_sets model.vars) it.clause)) is accepted.2) a solution.0
          (bits-choice (declared_sets model.vars) a constraint solution.0 (subst (λ k. HasBooleanSets (declared_sets model.vars) k) at (wf.booleans (it.constraint - 1) constraint within)))
          (subst (λ k. Meets k a) at (solution.1 (it.constraint - 1) constraint within))
      | inr past_end ↦ absurd (omega (arith, past_end.0, accepted.1.0, accepted.1.1))
    ]

-- what holds of every held clause holds of the one with this number
module _ (P : List Lit → Type 0) where
  pub of_clause : (past : StepsPast) (id : ℕ) → All (λ held. IfSome held P) past.clauses → IsClauseHeld past id → P (unwrap_or (clause_held past id) [])
  of_clause past id h held = by_number (id == 0) (get_or past.clauses (id - 1) None) (at_place (cases_lt (id - 1) (length past.clauses))) held
    where
      by_number : (b : Bool) (o : Option (List Lit)) → IfSome o P → IsSome (cond b None o) → P (unwrap_or (cond b None o) [])
      by_number true o k held' = cc
      by_number false None k held' = cc
      by_number false (Some clause) k held' = k

      at_place : ((id - 1) < length past.clauses) ⊎ (length past.clauses ≤ (id - 1)) → IfSome (get_or past.clauses (id - 1) None) P
      at_place (inl lt) = h (id - 1) None lt
      at_place (inr past_end) = rw (get_or_past past.clauses (id - 1) None past_end) tt

  by_recursion : (past : StepsPast) (ids : List ℕ) → All (λ held. IfSome held P) past.clauses → AllByRecursion (IsClauseHeld past) ids → AllByRecursion P (clauses_held past ids)
  by_recursion past [] h held = tt
  by_recursion past (id ∷ ids) h held = (of_clause past id h held.0, by_recursion past ids h held.1)

  pub of_clauses : (past : StepsPast) (ids : List ℕ) → All (λ held. IfSome held P) past.clauses → All (IsClauseHeld past) ids → All P (clauses_held past ids)
  of_clauses past ids h held = All-from_recursion P (clauses_held past ids) (by_recursion past ids h (recursion_from_All (IsClauseHeld past) ids held))

resolve_true : (model : Model) (past : StepsPast) (clause : List Lit) (ids : List ℕ) (a : List ℤ) → IsSound model past → IsAccepted model past (Resolve clause ids) → IsSolution model a → PassesCuts model past.solutions a → is_clause_true a clause ≡ true
resolve_true model past clause ids a sound accepted solution passes =
    accepted_sound (declared_sets model.vars) clause (clauses_held past ids)
    (over_sets model clause accepted.0)
    (subst (λ n. All (IsClauseOver n) (clauses_held past ids)) (sym (count model)) (of_clauses (IsClauseOver (length model.vars)) past ids sound.variables accepted.1))
    accepted.2 a solution.0
    (of_clauses (λ c. is_clause_true a c ≡ true) past ids (sound.clauses a solution passes) accepted.1)

-- ---- soundness is kept

pub sound-start : (model : Model) → IsSound model no_past
sound-start model = record {
  solutions = All-nil (IsSolution model);
  cuts = λ i j d before within. absurd (omega arith);
  variables = All-nil (λ held. IfSome held (IsClauseOver (length model.vars)));
  clauses = λ a solution passes. All-nil (λ held. IfSome held (λ clause. is_clause_true a clause ≡ true));
  refuted = λ h. cc;
}

empty_false : (clause : List Lit) (a : List ℤ) → is_empty_clause clause ≡ true → is_clause_true a clause ≡ true → ⊥
empty_false [] a e t = cc
empty_false (lit ∷ rest) a e t = grind arith

sound-clause : (model : Model) (past : StepsPast) (clause : List Lit) → IsSound model past → HasVariables model clause → ((a : List ℤ) → IsSolution model a → PassesCuts model past.solutions a → is_clause_true a clause ≡ true) → IsSound model (after_clause past clause)
sound-clause model past clause sound variables true_at = record {
  solutions = sound.solutions;
  cuts = sound.cuts;
  variables = All-push (λ held. IfSome held (IsClauseOver (length model.vars))) past.clauses (Some clause) sound.variables variables;
  clauses = λ a solution passes. All-push (λ held. IfSome held (λ c. is_clause_true a c ≡ true)) past.clauses (Some clause) (sound.clauses a solution passes) (true_at a solution passes);
  refuted = λ r a solution passes. elim (or_cases past.refuted (is_empty_clause clause) r) [
    | inl before ↦ sound.refuted before a solution passes
    | inr empty ↦ empty_false clause a empty (true_at a solution passes)
  ];
}

All-front : {X : Type 0} (P : X → Type 0) (xs : List X) (y : X) → AllByRecursion P (xs ++ y ∷ []) → AllByRecursion P xs × P y
All-front P [] y h = (tt, h.0)
All-front P (x ∷ xs) y h = let r = All-front P xs y h.1 in ((h.0, r.0), r.1)

sound-solution : (model : Model) (past : StepsPast) (values : List ℤ) → IsWellFormed model → IsSound model past → IsSolution model values → PassesCuts model past.solutions values → IsSound model (after_solution past (cut_of model values) values)
sound-solution model past values wf sound solution passes =
    let Passes : List ℤ → List ℤ → Type 0 = λ a m. is_clause_true a (cut_of model m) ≡ true in
    let parts : (a : List ℤ) → PassesCuts model (past.solutions ++ values ∷ []) a → PassesCuts model past.solutions a × (is_clause_true a (cut_of model values) ≡ true) =
    λ a p. let r = All-front (Passes a) past.solutions values (recursion_from_All (Passes a) (past.solutions ++ values ∷ []) p) in (All-from_recursion (Passes a) past.solutions r.0, r.1) in
    record {
      solutions = All-push (IsSolution model) past.solutions values sound.solutions solution;
      cuts = all_pairs_push (λ earlier later. is_clause_true later (cut_of model earlier) ≡ true) past.solutions values sound.cuts passes;
      variables = All-push (λ held. IfSome held (IsClauseOver (length model.vars))) past.clauses (Some (cut_of model values)) sound.variables (cut_of-variables model values wf);
      clauses = λ a s p. All-push (λ held. IfSome held (λ c. is_clause_true a c ≡ true)) past.clauses (Some (cut_of model values)) (sound.clauses a s (parts a p).0) (parts a p).1;
      refuted = λ r a s p. elim (or_cases past.refuted (is_empty_clause (cut_of model values)) r) [
        | inl before ↦ sound.refuted before a s (parts a p).0
        | inr empty ↦ empty_false (cut_of model values) a empty (parts a p).1
      ];
    }

All-without : (P : List Lit → Type 0) (clauses : List (Option (List Lit))) (ids : List ℕ) → All (λ held. IfSome held P) clauses → All (λ held. IfSome held P) (without clauses ids)
All-without P clauses [] h = h
All-without P clauses (id ∷ ids) h = All-without P (set clauses (id - 1) None) ids (All-set (λ held. IfSome held P) clauses (id - 1) None tt h)

sound-deletion : (model : Model) (past : StepsPast) (ids : List ℕ) → IsSound model past → IsSound model (after_deletion past ids)
sound-deletion model past ids sound = record {
  solutions = sound.solutions;
  cuts = sound.cuts;
  variables = All-push (λ held. IfSome held (IsClauseOver (length model.vars))) (without past.clauses ids) None (All-without (IsClauseOver (length model.vars)) past.clauses ids sound.variables) tt;
  clauses = λ a s p. All-push (λ held. IfSome held (λ c. is_clause_true a c ≡ true)) (without past.clauses ids) None (All-without (λ c. is_clause_true a c ≡ true) past.clauses ids (sound.clauses a s p)) tt;
  refuted = sound.refuted;
}

-- an accepted step keeps the past sound
pub sound-after : (model : Model) (past : StepsPast) (step : Step) → IsWellFormed model → IsSound model past → IsAccepted model past step → IsSound model (after_step model past step)
sound-after model past (Infer it) wf sound accepted =
    sound-clause model past it.clause sound accepted.0 (λ a solution passes. infer_true model past it a wf accepted solution)
sound-after model past (Resolve clause ids) wf sound accepted =
    sound-clause model past clause sound accepted.0 (λ a solution passes. resolve_true model past clause ids a sound accepted solution passes)
sound-after model past (Solution values) wf sound accepted = sound-solution model past values wf sound accepted.0 accepted.1
sound-after model past (Delete ids) wf sound accepted = sound-deletion model past ids sound

-- so do many
pub sound-all : (model : Model) (past : StepsPast) (steps : List Step) → IsWellFormed model → IsSound model past → AllAcceptedAfter model past steps → IsSound model (fold (after_step model) past steps)
sound-all model past [] wf sound accepted = sound
sound-all model past (step ∷ later) wf sound accepted = sound-all model (after_step model past step) later wf (sound-after model past step wf sound accepted.0) accepted.1

pub accepted-sound : (model : Model) (steps : List Step) → IsWellFormed model → AllAccepted model steps → IsSound model (past_after model steps)
accepted-sound model steps wf accepted = sound-all model no_past steps wf (sound-start model) accepted

-- ---- what a sound past says is true

pub proper-sound : (model : Model) (past : StepsPast) → IsSound model past → IsProper model past.solutions
proper-sound model past sound = proper-from_cuts model past.solutions sound.solutions sound.cuts

pub exhausted-sound : (model : Model) (past : StepsPast) → IsSound model past → past.refuted ≡ true → IsExhausted model past.solutions
exhausted-sound model past sound refuted = exhausted-from_cuts model past.solutions sound.cuts (sound.refuted refuted)

-- the solutions of accepted steps are a proper list
pub accepted-proper : (model : Model) (steps : List Step) → IsWellFormed model → AllAccepted model steps → IsProper model (past_after model steps).solutions
accepted-proper model steps wf accepted = proper-sound model (past_after model steps) (accepted-sound model steps wf accepted)

-- and exhausted once one of them gave the empty clause
pub closed-exhausted : (model : Model) (steps : List Step) → IsWellFormed model → AllAccepted model steps → (past_after model steps).refuted ≡ true → IsExhausted model (past_after model steps).solutions
closed-exhausted model steps wf accepted refuted = exhausted-sound model (past_after model steps) (accepted-sound model steps wf accepted) refuted
