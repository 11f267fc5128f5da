-- An inference is written.
use Rattle.std.proofs.Common.{◌≡◌, ℕ, ◌+◌, ◌*◌, ◌<◌, ◌≤◌, List, [], ◌∷◌, ◌++◌, length, set, Some, refl, sym, ap, ◌∙◌, subst}
use Rattle.std.proofs.Math.Seq.{map-set_same}
use Rattle.std.proofs.lemmas.List.{append-nil}
use Rattle.std.proofs.lemmas.List.Elements.{All-get_or, All-push, All-set, All-weaker}
use Rattle.fzn_domain.specs.declared.literal.Lit.{Lit}
use Rattle.fzn_meaning.specs.declared.model.Model.{Model}
use Rattle.fzn_cert.specs.declared.step.Step.{Step}
use Rattle.fzn_cert.specs.declared.step.Step.TheVariants.{Infer}
use Rattle.fzn_cert.specs.Past.{StepsPast, clause_held}
use Rattle.fzn_cert.specs.Accepted.{IsAccepted, after_step, past_after}
use Rattle.fzn_propagator.specs.declared.inferences.Inferred.{Inferred}
use Rattle.fzn_propagator.specs.Inferences.{inference_at, with_number}
use Rattle.fzn_trail.specs.Levels.{Levels}
use Rattle.fzn_learned.specs.Reasoned.{Known, IsReasoned}
use Rattle.fzn_state.specs.Volume.{slack}
use Rattle.fzn_state.specs.Learned.{resolved}
use Rattle.fzn_state.specs.State.{Stock, known_in, with_given, with_step, IsGivenBy, IsInferredJustified, CoreOf}
use Rattle.fzn_state.proofs.AcceptedLemmas.{past_after-push, resolved-append, length-past_of}
use Rattle.fzn_state.proofs.StateLemmas.{Core-more, Core-restocked, Stocked-over}
use Rattle.fzn_state.proofs.NumberLemmas.{clause_held-grown, clause_held-newest, AreGiven-push, AreNumbered-grown, IsJustified-grown, AreGivenBy-grown}

module _ {model : Model} {stock : Stock} {steps : List Step} {trail : Levels} {nodes : ℕ} (core : CoreOf model stock steps trail nodes) (place : ℕ) (stacked : place < length stock.stack) where
  abbrev pub it : Inferred
  it = inference_at stock.stack place

  abbrev pub step : Step
  step = Infer it.inference

  is_justified : IsInferredJustified model (past_after model steps) it
  is_justified = All-get_or (IsInferredJustified model (past_after model steps)) stock.stack place _ stacked core.justified

  pub infer-accepted : IsAccepted model (past_after model steps) step
  infer-accepted = (is_justified.over, is_justified.numbered, is_justified.justified)

  pub same_resolved : resolved (steps ++ step ∷ []) ≡ resolved steps
  same_resolved = resolved-append steps (step ∷ []) ∙ append-nil (resolved steps)

  pub known-written : (number : ℕ) → known_in (with_step place number stock) ≡ known_in stock
  known-written number =
      ap (λ (cs : List (List Lit)). record { held = stock.held; stacked = cs })
      (map-set_same (λ (i : Inferred). i.inference.clause) stock.stack place (with_number number it) _ refl)

  -- the step after these gives its clause
  gives-now : (number : ℕ) → number ≡ length steps + 1 → clause_held (after_step model (past_after model steps) step) number ≡ Some it.inference.clause
  gives-now number e =
      ap (clause_held (after_step model (past_after model steps) step)) (e ∙ ap (λ (n : ℕ). n + 1) (sym (length-past_of model steps)))
      ∙ clause_held-newest (past_after model steps) (after_step model (past_after model steps) step) it.inference.clause refl

  pub written-there : (number : ℕ) → number ≡ length steps + 1 → clause_held (past_after model (steps ++ step ∷ [])) number ≡ Some it.inference.clause
  written-there number e = ap (λ (p : StepsPast). clause_held p number) (past_after-push model steps step) ∙ gives-now number e

  -- and those before it still give theirs
  pub still-gives : (n : ℕ) (clause : List Lit) → clause_held (past_after model steps) n ≡ Some clause → clause_held (past_after model (steps ++ step ∷ [])) n ≡ Some clause
  still-gives n clause gives =
      ap (λ (p : StepsPast). clause_held p n) (past_after-push model steps step) ∙ clause_held-grown (past_after model steps) (after_step model (past_after model steps) step) (Some it.inference.clause) n clause refl gives

  newest : (number : ℕ) → number ≡ length steps + 1 → IsInferredJustified model (after_step model (past_after model steps) step) (with_number number it)
  newest number e =
      let later = IsJustified-grown model (past_after model steps) (after_step model (past_after model steps) step) (Some it.inference.clause) it refl is_justified in
      record { stands = later.stands; written = gives-now number e }

  pub Core-written : (number : ℕ) → number ≡ length steps + 1 → CoreOf model (with_step place number stock) (steps ++ step ∷ []) trail nodes
  Core-written number e =
      let now = after_step model (past_after model steps) step in
      let J : Inferred → Type 0 = IsInferredJustified model now in
      let N : List (List Lit) → Type 0 = λ cs. nodes + slack trail.sets ≤ (length cs + 1) * slack trail.declared in
      let R : Known → Type 0 = λ k. IsReasoned k trail in
      Core-more core step infer-accepted (with_step place number stock)
      (record {
        numbered = AreNumbered-grown (past_after model steps) now (Some it.inference.clause) stock.numbers stock.held refl core.numbered;
        justified = All-set J stock.stack place (with_number number it) (newest number e)
            (All-weaker (IsInferredJustified model (past_after model steps)) J (λ i j. IsJustified-grown model (past_after model steps) now (Some it.inference.clause) i refl j) stock.stack core.justified);
        written = All-push (IsGivenBy model now) stock.written (record { clause = it.inference.clause; number = number })
            (AreGivenBy-grown model (past_after model steps) now (Some it.inference.clause) stock.written refl core.written) (is_justified.over, gives-now number e);
        alive = AreGiven-push (past_after model steps) now stock.alive number it.inference.clause refl core.alive (gives-now number e);
        cuts_held = core.cuts_held;
        held_over = core.held_over;
      })
      trail refl (subst R (sym (known-written number)) core.reasoned) (subst N (sym same_resolved) core.nodes_by_conflicts)

  -- a step that was written before gives its clause
  pub Core-given : (number : ℕ) → clause_held (past_after model steps) number ≡ Some it.inference.clause → CoreOf model (with_given place number stock) steps trail nodes
  Core-given number gives =
      let J : Inferred → Type 0 = IsInferredJustified model (past_after model steps) in
      let R : Known → Type 0 = λ k. IsReasoned k trail in
      let one : J (with_number number it) = record { stands = is_justified.stands; written = gives } in
      Core-restocked core (with_given place number stock)
      (Stocked-over core.stocked (set stock.stack place (with_number number it)) (All-set J stock.stack place (with_number number it) one core.justified))
      (subst R (sym (known-written number)) core.reasoned)
