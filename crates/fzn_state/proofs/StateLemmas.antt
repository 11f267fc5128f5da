-- Each change of a search keeps what holds of it.
use Rattle.std.proofs.Common.{◌≡◌, ℕ, ◌+◌, ◌-◌, ◌*◌, ◌≤◌, Bool, List, [], ◌∷◌, ◌++◌, length, take, All, Some, sym, ◌∙◌, ap, subst, arith}
use Rattle.std.proofs.lemmas.List.{map-append, take-map}
use Rattle.std.proofs.lemmas.List.Elements.{All-push, All-take, All-weaker}
use Rattle.fzn_domain.specs.declared.literal.Lit.{Lit}
use Rattle.fzn_domain.specs.Literal.{negated}
use Rattle.fzn_domain.specs.IntSet.{IntSet}
use Rattle.fzn_domain.specs.Narrow.{IsVariable, IsClauseOver, IsOpen, NoneEmpty, narrowed}
use Rattle.fzn_meaning.specs.declared.model.Model.{Model}
use Rattle.fzn_meaning.specs.Solutions.{cut_of}
use Rattle.fzn_cert.specs.declared.step.Step.{Step}
use Rattle.fzn_cert.specs.Past.{StepsPast, clause_held}
use Rattle.fzn_cert.specs.Accepted.{IsAccepted, after_step, past_after}
use Rattle.fzn_propagator.specs.declared.inferences.Inferred.{Inferred}
use Rattle.fzn_trail.specs.declared.trail.Entry.{Entry}
use Rattle.fzn_trail.specs.Levels.{Levels}
use Rattle.fzn_clauses.proofs.HeldLemmas.{AllHeld-push}
use Rattle.fzn_learned.specs.Reasoned.{IsBelow, IsReasoned, Open}
use Rattle.fzn_learned.proofs.CallerLemmas.{IsReasoned-stacked, IsReasoned-cut}
use Rattle.fzn_state.specs.Volume.{volume, slack}
use Rattle.fzn_state.specs.Learned.{resolved, FreshAfter, negations, AllCertain, left_open, other_part}
use Rattle.fzn_state.specs.State.{Stock, known_in, with_held, with_cuts, with_inference, with_stack, IsHeldCut, IsInferredJustified, IsStocked, CoreOf, PlainOf}
use Rattle.fzn_state.proofs.AcceptedLemmas.{past_after-push, AllAccepted-push, length-past_of}
use Rattle.fzn_state.proofs.HeldCutLemmas.{IsHeldCut-grown}
use Rattle.fzn_state.proofs.NumberLemmas.{Grows, clause_held-newest, AreGiven-push, AreNumbered-grown, AreNumbered-push, IsJustified-grown, AreGivenBy-grown}
use Rattle.fzn_state.proofs.VolumeLemmas.{decided-accounts}
use Rattle.fzn_state.proofs.WithinLemmas.{Within, Within-narrowed, backed-within}
use Rattle.fzn_state.proofs.FreshLemmas.{learned-fresh, LevelsBacked-push, LevelsBacked-back, backed-back}

-- ---- the clauses

module _ {model : Model} {past : StepsPast} {variables : ℕ} {stock : Stock} (h : IsStocked model past variables stock) where
  -- the clause of the step that is new, with other flags of cuts
  pub Stocked-held : (now : StepsPast) (clause : List Lit) (number : ℕ) (flags : List Bool) → Grows past now (Some clause) → clause_held now number ≡ Some clause → All (λ values. IsHeldCut (stock.held ++ Some clause ∷ []) flags (cut_of model values)) now.solutions → IsClauseOver variables clause → IsStocked model now variables (with_cuts flags (with_held clause number stock))
  Stocked-held now clause number flags grows gives cuts over = record {
    numbered = AreNumbered-push now stock.numbers stock.held number clause (AreNumbered-grown past now (Some clause) stock.numbers stock.held grows h.numbered) gives;
    justified = All-weaker (IsInferredJustified model past) (IsInferredJustified model now) (λ it j. IsJustified-grown model past now (Some clause) it grows j) stock.stack h.justified;
    written = AreGivenBy-grown model past now (Some clause) stock.written grows h.written;
    alive = AreGiven-push past now stock.alive number clause grows h.alive gives;
    cuts_held = cuts;
    held_over = AllHeld-push (IsClauseOver variables) stock.held clause h.held_over over;
  }

  -- the cuts held so far, and one more clause
  pub cuts-grown : (clause : List Lit) → All (λ values. IsHeldCut (stock.held ++ Some clause ∷ []) stock.cuts (cut_of model values)) past.solutions
  cuts-grown clause =
      All-weaker (λ values. IsHeldCut stock.held stock.cuts (cut_of model values)) (λ values. IsHeldCut (stock.held ++ Some clause ∷ []) stock.cuts (cut_of model values))
      (λ values cut. IsHeldCut-grown stock.held stock.cuts (cut_of model values) cut (Some clause ∷ [])) past.solutions h.cuts_held

  -- another stack
  pub Stocked-over : (stack : List Inferred) → All (IsInferredJustified model past) stack → IsStocked model past variables (record stock { stack = stack })
  Stocked-over stack justified = record { numbered = h.numbered; justified = justified; written = h.written; alive = h.alive; cuts_held = h.cuts_held; held_over = h.held_over }

-- ---- the search

module _ {model : Model} {stock : Stock} {steps : List Step} {trail : Levels} {nodes : ℕ} (h : CoreOf model stock steps trail nodes) where
  -- a change of the trail alone
  pub Core-moved : (new : Levels) (count : ℕ) → new.declared ≡ trail.declared → IsReasoned (known_in stock) new → count + slack new.sets ≤ nodes + slack trail.sets → CoreOf model stock steps new count
  Core-moved new count e reasoned less =
      let conflicts = h.nodes_by_conflicts in
      let N : List IntSet → Type 0 = λ s. count + slack new.sets ≤ (length (resolved steps) + 1) * slack s in
      let F : List IntSet → Type 0 = λ s. NoneEmpty s in
      let K : List IntSet → Type 0 = λ s. IsStocked model (past_after model steps) (length s) stock in
      record {
        declared = e ∙ h.declared;
        filled = subst F (sym e) h.filled;
        accepted = h.accepted;
        stocked = subst K (sym e) h.stocked;
        reasoned = reasoned;
        nodes_by_conflicts = subst N (sym e) (omega arith);
      }

  -- a change of the clauses alone
  pub Core-restocked : (new : Stock) → IsStocked model (past_after model steps) (length trail.declared) new → IsReasoned (known_in new) trail → CoreOf model new steps trail nodes
  Core-restocked new stocked reasoned = record { declared = h.declared; filled = h.filled; accepted = h.accepted; stocked = stocked; reasoned = reasoned; nodes_by_conflicts = h.nodes_by_conflicts }

  -- one more step
  pub Core-more : (step : Step) → IsAccepted model (past_after model steps) step → (new : Stock) → IsStocked model (after_step model (past_after model steps) step) (length trail.declared) new → (there : Levels) → there.declared ≡ trail.declared → IsReasoned (known_in new) there → nodes + slack there.sets ≤ (length (resolved (steps ++ step ∷ [])) + 1) * slack trail.declared → CoreOf model new (steps ++ step ∷ []) there nodes
  Core-more step accepted new stocked there e reasoned less =
      let N : List IntSet → Type 0 = λ s. nodes + slack there.sets ≤ (length (resolved (steps ++ step ∷ [])) + 1) * slack s in
      let F : List IntSet → Type 0 = λ s. NoneEmpty s in
      let K : List IntSet → Type 0 = λ s. IsStocked model (after_step model (past_after model steps) step) (length s) new in
      let P : StepsPast → Type 0 = λ p. IsStocked model p (length there.declared) new in
      record {
        declared = e ∙ h.declared;
        filled = subst F (sym e) h.filled;
        accepted = AllAccepted-push model steps step h.accepted accepted;
        stocked = subst P (sym (past_after-push model steps step)) (subst K (sym e) stocked);
        reasoned = reasoned;
        nodes_by_conflicts = subst N (sym e) less;
      }

  -- its clause is held, with other flags of cuts
  pub Core-step : (step : Step) (clause : List Lit) (number : ℕ) (flags : List Bool) → number ≡ length steps + 1 → IsAccepted model (past_after model steps) step → Grows (past_after model steps) (after_step model (past_after model steps) step) (Some clause) → All (λ values. IsHeldCut (stock.held ++ Some clause ∷ []) flags (cut_of model values)) (after_step model (past_after model steps) step).solutions → IsClauseOver (length trail.declared) clause → (new : Levels) → new.declared ≡ trail.declared → IsReasoned (known_in (with_held clause number stock)) new → nodes + slack new.sets ≤ (length (resolved (steps ++ step ∷ [])) + 1) * slack trail.declared → CoreOf model (with_cuts flags (with_held clause number stock)) (steps ++ step ∷ []) new nodes
  Core-step step clause number flags newest accepted grows cuts over new e reasoned less =
      let now = after_step model (past_after model steps) step in
      let gives : clause_held now number ≡ Some clause =
      ap (clause_held now) (newest ∙ ap (λ (n : ℕ). n + 1) (sym (length-past_of model steps))) ∙ clause_held-newest (past_after model steps) now clause grows in
      Core-more step accepted (with_cuts flags (with_held clause number stock)) (Stocked-held h.stocked now clause number flags grows gives cuts over) new e reasoned less

  -- one more inference
  pub Core-stacked : (it : Inferred) → IsInferredJustified model (past_after model steps) it → CoreOf model (with_inference it stock) steps trail nodes
  Core-stacked it justified =
      let K : List (List Lit) → Type 0 = λ cs. IsReasoned (record { held = stock.held; stacked = cs }) trail in
      Core-restocked (with_inference it stock) (Stocked-over h.stocked (stock.stack ++ it ∷ []) (All-push (IsInferredJustified model (past_after model steps)) stock.stack it h.justified justified))
      (subst K (sym (map-append (λ (i : Inferred). i.inference.clause) stock.stack (it ∷ []))) (IsReasoned-stacked (known_in stock) (it.inference.clause ∷ []) trail h.reasoned))

  -- fewer inferences, where no entry rests on the others
  pub Core-cut : (count : ℕ) → All (λ (entry : Entry). IsBelow count entry.reason) trail.entries → CoreOf model (with_stack count stock) steps trail nodes
  Core-cut count enough =
      let K : List (List Lit) → Type 0 = λ cs. IsReasoned (record { held = stock.held; stacked = cs }) trail in
      Core-restocked (with_stack count stock) (Stocked-over h.stocked (take count stock.stack) (All-take (IsInferredJustified model (past_after model steps)) count stock.stack h.justified))
      (subst K (take-map (λ (i : Inferred). i.inference.clause) count stock.stack) (IsReasoned-cut (known_in stock) count trail enough h.reasoned))

-- ---- plain learning

left_open-push : (before : List Open) (at : Open) → left_open (before ++ at ∷ []) ≡ left_open before + (volume (other_part at) - 1)
left_open-push [] at = omega arith
left_open-push (first ∷ before) at = omega (arith, left_open-push before at)

module _ {declared sets : List IntSet} {taken : List Open} {learned : List (List Lit)} {nodes : ℕ} (h : PlainOf declared sets taken learned nodes) where
  pub Plain-narrowed : (new : List IntSet) → Within new sets → volume new ≤ volume sets → PlainOf declared new taken learned nodes
  Plain-narrowed new within less =
      let parts = h.nodes_by_parts in
      record {
        fresh = h.fresh;
        backed = backed-within (length declared) new sets learned within h.backed;
        levels_backed = h.levels_backed;
        nodes_by_parts = omega arith;
      }

  -- a decision leaves its other part open
  pub Plain-decided : NoneEmpty sets → (lit : Lit) → IsVariable (length sets) lit.var → IsOpen sets lit → PlainOf declared (narrowed sets lit) (taken ++ record { sets = sets; decision = lit } ∷ []) learned (nodes + 1)
  Plain-decided filled lit var either =
      let parts = h.nodes_by_parts in
      let shares = decided-accounts sets lit filled var either in
      let more = left_open-push taken (record { sets = sets; decision = lit }) in
      record {
        fresh = h.fresh;
        backed = backed-within (length declared) (narrowed sets lit) sets learned (Within-narrowed sets lit) h.backed;
        levels_backed = LevelsBacked-push (length declared) learned taken (record { sets = sets; decision = lit }) h.levels_backed h.backed;
        nodes_by_parts = omega arith;
      }

  -- the learned clause, one level back, and what it forces there
  pub Plain-learned : (before : List Open) (at : Open) → taken ≡ before ++ at ∷ [] → FreshAfter declared [] (learned ++ negations taken ∷ []) → length at.sets ≡ length declared → IsVariable (length declared) at.decision.var → PlainOf declared (narrowed at.sets (negated at.decision)) before (learned ++ negations taken ∷ []) nodes
  Plain-learned before at e fresh count var =
      let P : List Open → Type 0 = λ t. PlainOf declared sets t learned nodes in
      let F : List Open → Type 0 = λ t. FreshAfter declared [] (learned ++ negations t ∷ []) in
      let G : List Open → Type 0 = λ t. PlainOf declared (narrowed at.sets (negated at.decision)) before (learned ++ negations t ∷ []) nodes in
      let p = subst P e h in
      let parts = p.nodes_by_parts in
      let more = left_open-push before at in
      subst G (sym e) (record {
        fresh = subst F e fresh;
        backed = backed-back (length declared) learned before at count var p.levels_backed;
        levels_backed = LevelsBacked-back (length declared) learned before at p.levels_backed;
        nodes_by_parts = omega arith;
      })

  pub Plain-fresh : length sets ≡ length declared → Within sets declared → NoneEmpty sets → AllCertain (length declared) sets taken → FreshAfter declared [] (learned ++ negations taken ∷ [])
  Plain-fresh count within filled certain = learned-fresh declared sets learned taken count within filled certain h.backed h.fresh
