-- The clause of a written inference is held under a number that no held clause has.
use Rattle.std.proofs.Common.{◌≡◌, ◌≢◌, ℕ, ◌<◌, List, [], ◌∷◌, length, get_or, set, All, Option, Some, None, sym, ap, ◌∙◌, subst, inl, inr, arith, get_or-set_same, get_or-set_other}
use Rattle.std.specs.Prelude.{IsSome}
use Rattle.std.specs.Option.{unwrap_or}
use Rattle.std.proofs.lemmas.Bool.{cases_eq}
use Rattle.std.proofs.lemmas.List.{length-set}
use Rattle.std.proofs.lemmas.List.Elements.{All-nil, All-cons, All-weaker}
use Rattle.fzn_domain.specs.declared.literal.Lit.{Lit}
use Rattle.fzn_domain.specs.Narrow.{IsClauseOver}
use Rattle.fzn_meaning.specs.declared.model.Model.{Model}
use Rattle.fzn_meaning.specs.Solutions.{cut_of}
use Rattle.fzn_cert.specs.declared.step.Step.{Step}
use Rattle.fzn_cert.specs.Past.{StepsPast, clause_held}
use Rattle.fzn_cert.specs.Accepted.{past_after}
use Rattle.fzn_trail.specs.declared.trail.ClauseId.{ClauseId}
use Rattle.fzn_trail.specs.declared.trail.Entry.{Entry}
use Rattle.fzn_trail.specs.declared.trail.Reason.{Reason}
use Rattle.fzn_trail.specs.declared.trail.Antecedent.TheVariants.{Clause, Inference}
use Rattle.fzn_trail.specs.declared.trail.Reason.TheVariants.{Decision, Implied}
use Rattle.fzn_trail.specs.Levels.{Levels}
use Rattle.fzn_clauses.specs.declared.clauses.Clauses.{Clauses}
use Rattle.fzn_clauses.specs.Held.{Held, IsHeld, AllHeld, at_number, clause_of}
use Rattle.fzn_clauses.specs.Kept.{KeepsWatching}
use Rattle.fzn_clauses.specs.Watching.{held_by}
use Rattle.fzn_learned.specs.Reasoned.{IsReasoned}
use Rattle.fzn_learned.proofs.CallerLemmas.{IsReasoned-still, IsStill}
use Rattle.fzn_reduction.specs.declared.notes.Notes.{Notes}
use Rattle.fzn_reduction.specs.Written.{given_at}
use Rattle.fzn_state.specs.declared.solver.Solver.{Solver}
use Rattle.fzn_state.specs.Changes.{IsReduced}
use Rattle.fzn_state.specs.Search.{IsAfter, stock_of}
use Rattle.fzn_state.specs.State.{known_in, IsHeldCut, AreNumbered}
use Rattle.fzn_state.proofs.HeldCutLemmas.{IsHeldCut-put}
use Rattle.fzn_state.proofs.ForgetLemmas.{restocked-reduced, written-given, written-over}

-- ---- one more clause, under a free number

module _ (held : Held) (id : ClauseId) (clause : List Lit) (free : IsHeld held id → ⊥) where
  abbrev now : Held
  now = set held id.0 (Some clause)

  other_id : (other : ClauseId) → IsHeld held other → other.0 ≢ id.0
  other_id other is same = free (subst (λ (n : ℕ). IsSome (get_or held n None)) same is)

  at_other : (other : ClauseId) → other.0 ≢ id.0 → at_number now other ≡ at_number held other
  at_other other apart = get_or-set_other held id.0 other.0 (Some clause) None apart

  clause_still : (other : ClauseId) → other.0 ≢ id.0 → clause_of now other ≡ clause_of held other
  clause_still other apart = ap (λ (o : Option (List Lit)). unwrap_or o []) (at_other other apart)

  module _ (within : id.0 < length held) where
    clause_here : (other : ClauseId) → other.0 ≡ id.0 → clause_of now other ≡ clause
    clause_here other same =
        ap (λ (n : ℕ). unwrap_or (get_or now n None) []) same
        ∙ ap (λ (o : Option (List Lit)). unwrap_or o []) (get_or-set_same held id.0 (Some clause) None within)

    pub AllHeld-put : (P : List Lit → Type 0) → AllHeld P held → P clause → AllHeld P now
    AllHeld-put P all one other is = elim (cases_eq other.0 id.0) [
      | inl same ↦ subst P (sym (clause_here other same)) one
      | inr apart ↦ subst P (sym (clause_still other apart)) (all other (subst IsSome (at_other other apart) is))
    ]

    pub AreNumbered-put : (past : StepsPast) (numbers : List ℕ) (number : ℕ) → AreNumbered past numbers held → clause_held past number ≡ Some clause → AreNumbered past (set numbers id.0 number) now
    AreNumbered-put past numbers number h one = record {
      one_each = length-set numbers id.0 number ∙ h.one_each ∙ sym (length-set held id.0 (Some clause));
      gives = λ other is. elim (cases_eq other.0 id.0) [
        | inl same ↦
            ap (λ (n : ℕ). clause_held past (get_or (set numbers id.0 number) n 0)) same
            ∙ ap (clause_held past) (get_or-set_same numbers id.0 number 0 (omega (arith, within, h.one_each)))
            ∙ one ∙ ap Some (sym (clause_here other same))
        | inr apart ↦
            ap (clause_held past) (get_or-set_other numbers id.0 other.0 number 0 apart)
            ∙ h.gives other (subst IsSome (at_other other apart) is) ∙ ap Some (sym (clause_still other apart))
      ];
    }

  -- ---- what the entries rest on is still held

  still-put : (reason : Reason) → IsStill held now reason
  still-put Decision = tt
  still-put (Implied (Clause other)) = λ is. at_other other (other_id other is)
  still-put (Implied (Inference place)) = tt

  still-each : (entries : List Entry) → All (λ (entry : Entry). IsStill held now entry.reason) entries
  still-each [] = All-nil (λ (entry : Entry). IsStill held now entry.reason)
  still-each (entry ∷ later) = All-cons (λ (e : Entry). IsStill held now e.reason) entry later (still-put entry.reason) (still-each later)

  pub IsReasoned-put : (stacked : List (List Lit)) (trail : Levels) → IsReasoned (record { held = held; stacked = stacked }) trail → IsReasoned (record { held = now; stacked = stacked }) trail
  IsReasoned-put stacked trail reasoned = IsReasoned-still (record { held = held; stacked = stacked }) now trail (still-each trail.entries) reasoned

-- ---- the search that has it

pub put-reduced : {model : Model} {old : Solver} {steps : List Step} (h : IsAfter model old steps) (place : ℕ) (within_written : place < length old.written) (clauses : Clauses) (id : ClauseId) → id.0 < length (held_by old.clauses) → (IsHeld (held_by old.clauses) id → ⊥) → held_by clauses ≡ set (held_by old.clauses) id.0 (Some (given_at old.written place).clause) → KeepsWatching old.clauses clauses → (notes : Notes) → IsReduced model old (record old { clauses = clauses; numbers = set old.numbers id.0 (given_at old.written place).number; notes = notes }) steps
put-reduced {model = model} {old = old} {steps = steps} h place within_written clauses id within free held_is keeps notes =
    let core = h.state.core in
    let held = held_by old.clauses in
    let clause = (given_at old.written place).clause in
    let number = (given_at old.written place).number in
    let put = set (held_by old.clauses) id.0 (Some (given_at old.written place).clause) in
    restocked-reduced h clauses keeps put held_is (set old.numbers id.0 number)
    (record {
      numbered = AreNumbered-put held id clause free within (past_after model steps) old.numbers number core.numbered (written-given h place within_written);
      justified = core.justified;
      written = core.written;
      alive = core.alive;
      cuts_held = All-weaker (λ values. IsHeldCut held old.cuts (cut_of model values)) (λ values. IsHeldCut put old.cuts (cut_of model values))
          (λ values cut. IsHeldCut-put held old.cuts (cut_of model values) cut id clause free) (past_after model steps).solutions core.cuts_held;
      held_over = AllHeld-put held id clause free within (IsClauseOver (length old.trail.declared)) core.held_over (written-over h place within_written);
    })
    (IsReasoned-put held id clause free (known_in (stock_of old)).stacked old.trail core.reasoned) notes
