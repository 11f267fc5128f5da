-- Cuts stay held as ones.
use Rattle.std.proofs.Common.{◌≡◌, ◌≢◌, ℕ, ◌≤◌, Bool, true, List, [], ◌++◌, length, get_or, set, Option, Some, None, refl, sym, ap, ◌∙◌, subst, arith}
use Rattle.std.specs.Prelude.{IsSome}
use Rattle.std.specs.Option.{unwrap_or}
use Rattle.std.proofs.lemmas.List.{get_or-set_other}
use Rattle.fzn_domain.specs.declared.literal.Lit.{Lit}
use Rattle.fzn_trail.specs.declared.trail.ClauseId.{ClauseId}
use Rattle.fzn_clauses.specs.Held.{Held, IsHeld, AllHeld, at_number}
use Rattle.fzn_clauses.proofs.HeldLemmas.{IsHeld-within, at_number-grown}
use Rattle.fzn_reduction.specs.Forgetting.{is_cut}
use Rattle.fzn_state.specs.State.{IsHeldCut}

module _ (held : Held) (cuts : List Bool) (clause : List Lit) (h : IsHeldCut held cuts clause) where
  is_held : IsHeld held h.0
  is_held = subst IsSome (sym h.2) refl

  -- what holds of each held clause
  pub IsHeldCut-all : (P : List Lit → Type 0) → AllHeld P held → P clause
  IsHeldCut-all P all = subst P (ap (λ (o : Option (List Lit)). unwrap_or o []) h.2) (all h.0 is_held)

  -- with more clauses
  pub IsHeldCut-grown : (more : Held) → IsHeldCut (held ++ more) cuts clause
  IsHeldCut-grown more = (h.0, h.1, at_number-grown held more h.0 is_held ∙ h.2)

  -- with another flag, of a number that no clause has yet
  pub IsHeldCut-flagged : (new : List Bool) (id : ClauseId) → length held ≤ id.0 → ((other : ClauseId) → other.0 ≢ id.0 → is_cut new other ≡ is_cut cuts other) → IsHeldCut held new clause
  IsHeldCut-flagged new id past others = (h.0, others h.0 (λ same. absurd (omega (arith, same, past, IsHeld-within held h.0 is_held))) ∙ h.1, h.2)

  -- where those are left that have flags
  pub IsHeldCut-left : (left : Held) → ((id : ClauseId) → IsHeld held id → is_cut cuts id ≡ true → at_number left id ≡ at_number held id) → IsHeldCut left cuts clause
  IsHeldCut-left left same = (h.0, h.1, same h.0 is_held h.1 ∙ h.2)

  -- where another is held under a free number
  pub IsHeldCut-put : (id : ClauseId) (one : List Lit) → (IsHeld held id → ⊥) → IsHeldCut (set held id.0 (Some one)) cuts clause
  IsHeldCut-put id one free =
      let apart : h.0.0 ≢ id.0 = λ same. free (subst (λ (n : ℕ). IsSome (get_or held n None)) same is_held) in
      (h.0, h.1, get_or-set_other held id.0 h.0.0 (Some one) None apart ∙ h.2)
