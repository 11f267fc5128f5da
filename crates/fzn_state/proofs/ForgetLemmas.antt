-- Other clauses are held.
use Rattle.std.proofs.Common.{◌≡◌, ◌≢◌, ℕ, ◌<◌, List, [], ◌∷◌, ◌++◌, length, All, Option, Some, is_some, refl, sym, ap, ◌∙◌, subst, inl, inr}
use Rattle.std.specs.Prelude.{IsSome}
use Rattle.std.specs.Option.{unwrap_or}
use Rattle.std.proofs.lemmas.Bool.{cases_Bool, false≢true}
use Rattle.std.proofs.lemmas.List.{length-map}
use Rattle.std.proofs.lemmas.List.Elements.{All-nil, All-cons, All-head, All-tail, All-get_or, All-weaker}
use Rattle.fzn_domain.specs.declared.literal.Lit.{Lit}
use Rattle.fzn_domain.specs.Narrow.{IsClauseOver}
use Rattle.fzn_meaning.specs.declared.model.Model.{Model}
use Rattle.fzn_meaning.specs.Solutions.{declared_sets, cut_of}
use Rattle.fzn_sets.specs.Sets.{Narrowed, start}
use Rattle.fzn_cert.specs.declared.step.Step.{Step}
use Rattle.fzn_cert.specs.Past.{clause_held}
use Rattle.fzn_cert.specs.Accepted.{past_after}
use Rattle.fzn_trail.specs.declared.trail.ClauseId.{ClauseId}
use Rattle.fzn_trail.specs.declared.trail.Entry.{Entry}
use Rattle.fzn_trail.specs.declared.trail.Reason.{Reason}
use Rattle.fzn_trail.specs.declared.trail.Antecedent.TheVariants.{Clause, Inference}
use Rattle.fzn_trail.specs.declared.trail.Reason.TheVariants.{Decision, Implied}
use Rattle.fzn_clauses.specs.declared.clauses.Clauses.{Clauses}
use Rattle.fzn_clauses.specs.Held.{Held, IsHeld, at_number, clause_of}
use Rattle.fzn_clauses.specs.Kept.{KeepsWatching}
use Rattle.fzn_clauses.specs.Watching.{held_by}
use Rattle.fzn_clauses.proofs.HeldLemmas.{AllHeld-push}
use Rattle.fzn_learned.specs.Reasoned.{IsReasoned}
use Rattle.fzn_learned.proofs.CallerLemmas.{IsReasoned-grown, IsReasoned-still, IsStill}
use Rattle.fzn_reduction.specs.declared.notes.Notes.{Notes}
use Rattle.fzn_state.specs.declared.solver.Solver.{Solver}
use Rattle.fzn_reduction.specs.declared.written.Given.{Given}
use Rattle.fzn_reduction.specs.Forgetting.{HasForgotten}
use Rattle.fzn_reduction.specs.Written.{given_at}
use Rattle.fzn_state.specs.Changes.{IsReduced}
use Rattle.fzn_state.specs.Search.{IsAfter, stock_of}
use Rattle.fzn_state.specs.State.{known_in, IsGivenBy, IsHeldCut, IsStocked, StateOf}
use Rattle.fzn_state.proofs.HeldCutLemmas.{IsHeldCut-left}
use Rattle.fzn_state.proofs.NumberLemmas.{AreNumbered-push}
use Rattle.fzn_state.proofs.StateLemmas.{cuts-grown, Core-restocked}

-- ---- the search that is left

pub reduced-through : {model : Model} {old mid new : Solver} {before now : List Step} → IsReduced model old mid before → IsReduced model mid new now → IsReduced model old new now
reduced-through a b = record { state = b.state; trail = b.trail ∙ a.trail; tally = b.tally ∙ a.tally }

module _ {model : Model} {old : Solver} {steps : List Step} (h : IsAfter model old steps) where
  -- other notes are no change, nor are the sets on which learned clauses are tested, while they are the declared ones
  pub noted-reduced : (scratch : Narrowed) → scratch ≡ start (declared_sets model.vars) → (notes : Notes) → IsReduced model old (record old { scratch = scratch; notes = notes }) steps
  noted-reduced scratch fresh notes = record {
    state = record {
      state = h.state;
      watching = h.watching;
      order = record { scratch = fresh; vars = h.vars; found_is = h.found_is; found_few = h.found_few; steps_are = h.steps_are; few_steps = h.few_steps };
    };
    trail = refl;
    tally = refl;
  }

  pub nothing-reduced : (notes : Notes) → IsReduced model old (record old { notes = notes }) steps
  nothing-reduced notes = noted-reduced old.scratch h.scratch notes

  -- other clauses are held, under numbers of steps that give them
  pub restocked-reduced : (clauses : Clauses) → KeepsWatching old.clauses clauses → (held : Held) → held_by clauses ≡ held → (numbers : List ℕ) → IsStocked model (past_after model steps) (length old.trail.declared) (record (stock_of old) { held = held; numbers = numbers }) → IsReasoned (record (known_in (stock_of old)) { held = held }) old.trail → (notes : Notes) → IsReduced model old (record old { clauses = clauses; numbers = numbers; notes = notes }) steps
  restocked-reduced clauses keeps held held_is numbers stocked reasoned notes =
      let S : Held → Type 0 = λ cs. StateOf model old.learn (record (stock_of old) { held = cs; numbers = numbers }) steps old.trail old.search.nodes in
      let state : S held = record { core = Core-restocked h.state.core (record (stock_of old) { held = held; numbers = numbers }) stocked reasoned; plain = h.state.plain } in
      record {
        state = record { state = subst S (sym held_is) state; watching = keeps.watching old.trail h.watching; order = h.order };
        trail = refl;
        tally = refl;
      }

  -- some clauses were forgotten
  module _ (clauses : Clauses) (forgotten : HasForgotten old.trail old.cuts old.clauses clauses) where
    abbrev held : Held
    held = held_by old.clauses

    abbrev left : Held
    left = held_by clauses

    was_held : (id : ClauseId) → IsHeld left id → IsHeld held id
    was_held id is = subst IsSome (forgotten.left id is) is

    clause_left : (id : ClauseId) → IsHeld left id → clause_of left id ≡ clause_of held id
    clause_left id is = ap (λ (o : Option (List Lit)). unwrap_or o []) (forgotten.left id is)

    -- one that cannot be gone is left
    at_left : (id : ClauseId) → ((IsHeld left id → ⊥) → ⊥) → at_number left id ≡ at_number held id
    at_left id not_gone = elim (cases_Bool (is_some (at_number left id))) [
      | inl is ↦ forgotten.left id is
      | inr not ↦ absurd (not_gone (λ is. false≢true (sym not ∙ is)))
    ]

    still-one : (reason : Reason) → ((id : ClauseId) → IsHeld held id → (IsHeld left id → ⊥) → reason ≢ Implied (Clause id)) → IsStill held left reason
    still-one Decision apart = tt
    still-one (Implied (Clause id)) apart = λ was. at_left id (λ gone. apart id was gone refl)
    still-one (Implied (Inference place)) apart = tt

    -- each reason among them
    still-each : (entries : List Entry) → ((id : ClauseId) → IsHeld held id → (IsHeld left id → ⊥) → All (λ (entry : Entry). entry.reason ≢ Implied (Clause id)) entries) → All (λ (entry : Entry). IsStill held left entry.reason) entries
    still-each [] apart = All-nil (λ (entry : Entry). IsStill held left entry.reason)
    still-each (entry ∷ later) apart =
        All-cons (λ (e : Entry). IsStill held left e.reason) entry later
        (still-one entry.reason (λ id was gone. All-head (λ (e : Entry). e.reason ≢ Implied (Clause id)) entry later (apart id was gone)))
        (still-each later (λ id was gone. All-tail (λ (e : Entry). e.reason ≢ Implied (Clause id)) entry later (apart id was gone)))

    pub forgotten-reduced : (notes : Notes) → IsReduced model old (record old { clauses = clauses; notes = notes }) steps
    forgotten-reduced notes =
        let core = h.state.core in
        restocked-reduced clauses forgotten.watching left refl old.numbers
        (record {
          numbered = record {
            one_each = core.numbered.one_each ∙ sym forgotten.size;
            gives = λ id is. core.numbered.gives id (was_held id is) ∙ ap Some (sym (clause_left id is));
          };
          justified = core.justified;
          written = core.written;
          alive = core.alive;
          cuts_held = All-weaker (λ values. IsHeldCut held old.cuts (cut_of model values)) (λ values. IsHeldCut left old.cuts (cut_of model values))
              (λ values cut. IsHeldCut-left held old.cuts (cut_of model values) cut left
              (λ id was flag. at_left id (λ gone. false≢true (sym (forgotten.gone id was gone).no_cut ∙ flag)))) (past_after model steps).solutions core.cuts_held;
          held_over = λ id is. subst (IsClauseOver (length old.trail.declared)) (sym (clause_left id is)) (core.held_over id (was_held id is));
        })
        (IsReasoned-still (known_in (stock_of old)) left old.trail (still-each old.trail.entries (λ id was gone. (forgotten.gone id was gone).no_reason)) core.reasoned) notes

  -- the same clauses are watched otherwise
  pub swept-reduced : (clauses : Clauses) → held_by clauses ≡ held_by old.clauses → KeepsWatching old.clauses clauses → (notes : Notes) → IsReduced model old (record old { clauses = clauses; notes = notes }) steps
  swept-reduced clauses held_is keeps notes = restocked-reduced clauses keeps (held_by old.clauses) held_is old.numbers h.state.core.stocked h.state.core.reasoned notes

  -- ---- the clause of a written inference

  module _ (place : ℕ) (within : place < length old.written) where
    abbrev it : Given
    it = given_at old.written place

    is_given : IsGivenBy model (past_after model steps) (given_at old.written place)
    is_given = All-get_or (IsGivenBy model (past_after model steps)) old.written place _ within h.state.core.written

    -- the step of its number gives it
    pub written-given : clause_held (past_after model steps) (given_at old.written place).number ≡ Some (given_at old.written place).clause
    written-given = is_given.1

    pub written-over : IsClauseOver (length old.trail.declared) (given_at old.written place).clause
    written-over =
        let sizes : length old.trail.declared ≡ length model.vars = ap length h.state.core.declared ∙ length-map model.vars (λ var. var.domain) in
        let O : ℕ → Type 0 = λ n. IsClauseOver n (given_at old.written place).clause in
        subst O (sym sizes) is_given.0

    -- it is held too
    pub more-reduced : (clauses : Clauses) → held_by clauses ≡ held_by old.clauses ++ Some (given_at old.written place).clause ∷ [] → KeepsWatching old.clauses clauses → (notes : Notes) → IsReduced model old (record old { clauses = clauses; numbers = old.numbers ++ (given_at old.written place).number ∷ []; notes = notes }) steps
    more-reduced clauses held_is keeps notes =
        let core = h.state.core in
        let held = held_by old.clauses in
        restocked-reduced clauses keeps (held ++ Some it.clause ∷ []) held_is (old.numbers ++ it.number ∷ [])
        (record {
          numbered = AreNumbered-push (past_after model steps) old.numbers held it.number it.clause core.numbered written-given;
          justified = core.justified;
          written = core.written;
          alive = core.alive;
          cuts_held = cuts-grown core.stocked it.clause;
          held_over = AllHeld-push (IsClauseOver (length old.trail.declared)) held it.clause core.held_over written-over;
        })
        (IsReasoned-grown (known_in (stock_of old)) (Some it.clause ∷ []) old.trail core.reasoned) notes
