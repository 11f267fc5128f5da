-- Steps on which nothing rests are deleted.
use Rattle.std.proofs.Common.{◌≡◌, ◌≢◌, ℕ, ◌+◌, ◌-◌, ◌*◌, ◌^◌, ◌<◌, ◌≤◌, ◌==◌, ◌⊎◌, cond, List, [], ◌∷◌, ◌++◌, length, get_or, set, All, Contains, Option, Some, None, IfSome, is_some, refl, sym, ap, ◌∙◌, subst, inl, inr, arith}
use Rattle.std.specs.List.{AllByRecursion}
use Rattle.std.proofs.lemmas.List.{append-nil, get_or-set_other}
use Rattle.std.proofs.lemmas.List.Elements.{All-head, All-tail, All-weaker, All-get_or, All-from_get_or, All-contains, Contains-get_or}
use Rattle.fzn_domain.specs.declared.literal.Lit.{Lit}
use Rattle.fzn_meaning.specs.declared.model.Model.{Model}
use Rattle.fzn_cert.specs.declared.step.Step.{Step}
use Rattle.fzn_cert.specs.declared.step.Step.TheVariants.{Delete}
use Rattle.fzn_cert.specs.declared.step.Version.TheVariants.{Two}
use Rattle.fzn_cert.specs.Past.{StepsPast, clause_held, IsClauseHeld as IsGiven, without, after_deletion}
use Rattle.fzn_cert.specs.Accepted.{IsAccepted, AllAccepted, past_after}
use Rattle.fzn_cert.specs.Spelling.{IsNumber, IdsRise, IsSpelled}
use Rattle.fzn_propagator.specs.Inferences.{inference_at}
use Rattle.fzn_trail.specs.Levels.{Levels}
use Rattle.fzn_clauses.specs.Held.{clause_of}
use Rattle.fzn_clauses.specs.Watching.{held_by}
use Rattle.fzn_learned.specs.Reasoned.{opens}
use Rattle.fzn_reduction.specs.declared.deletion.Deletion.{Deletion}
use Rattle.fzn_reduction.specs.declared.notes.Notes.{Notes}
use Rattle.fzn_state.specs.declared.solver.Solver.{Solver}
use Rattle.fzn_reduction.specs.declared.written.Given.{Given}
use Rattle.fzn_reduction.specs.Deletion.{IsInUse, IsDeletion, IsThinned}
use Rattle.fzn_state.specs.Volume.{slack}
use Rattle.fzn_state.specs.Learned.{resolved}
use Rattle.fzn_state.specs.Changes.{IsReduced}
use Rattle.fzn_state.specs.Search.{IsAfter, stock_of}
use Rattle.fzn_state.specs.State.{Stock, AreNumbered, IsGivenBy, IsInferredJustified, CoreOf, PlainOf, StateOf}
use Rattle.fzn_state.proofs.AcceptedLemmas.{resolved-append, logged-accepted, length-past_of}
use Rattle.fzn_state.proofs.StateLemmas.{Core-more}
use Rattle.fzn_state.proofs.SolverLemmas.{order-step}
use Rattle.fzn_state.proofs.NumberLemmas.{number-of, clause_held-grown, given-clause}

-- ---- the clauses that are left

without-other : (clauses : List (Option (List Lit))) (ids : List ℕ) (k : ℕ) → All (λ (id : ℕ). id - 1 ≢ k) ids → get_or (without clauses ids) k None ≡ get_or clauses k None
without-other clauses [] k apart = refl
without-other clauses (id ∷ ids) k apart =
    let head : id - 1 ≢ k = All-head (λ (i : ℕ). i - 1 ≢ k) id ids apart in
    without-other (set clauses (id - 1) None) ids k (All-tail (λ (i : ℕ). i - 1 ≢ k) id ids apart)
    ∙ get_or-set_other clauses (id - 1) k None None (λ e. head (sym e))

module _ (past : StepsPast) (ids : List ℕ) (ones : All (λ (id : ℕ). 1 ≤ id) ids) where
  -- a step that is not deleted gives its clause
  clause_held-left : (n : ℕ) (clause : List Lit) → All (λ (id : ℕ). id ≢ n) ids → clause_held past n ≡ Some clause → clause_held (after_deletion past ids) n ≡ Some clause
  clause_held-left n clause apart gives =
      let mid : StepsPast = record { clauses = without past.clauses ids; solutions = past.solutions; refuted = past.refuted } in
      let one = number-of past n clause gives in
      let places : All (λ (id : ℕ). id - 1 ≢ n - 1) ids =
      All-from_get_or (λ (id : ℕ). id - 1 ≢ n - 1) ids 0 (λ i below. place_apart (get_or ids i 0) n (All-get_or (λ (id : ℕ). 1 ≤ id) ids i 0 below ones) one.0 (All-get_or (λ (id : ℕ). id ≢ n) ids i 0 below apart)) in
      clause_held-grown mid (after_deletion past ids) None n clause refl (ap (λ (o : Option (List Lit)). cond (n == 0) None o) (without-other past.clauses ids (n - 1) places) ∙ gives)
    where
      place_apart : (id k : ℕ) → 1 ≤ id → 1 ≤ k → id ≢ k → id - 1 ≢ k - 1
      place_apart id k a b apart e = apart (omega arith)

-- ---- the search that is left

module _ {model : Model} {stock : Stock} {steps : List Step} {trail : Levels} {nodes : ℕ} (core : CoreOf model stock steps trail nodes) (ids : List ℕ) (alive : All (Contains stock.alive) ids) (idle : (n : ℕ) → IsInUse stock.held stock.numbers stock.stack n → Contains ids n → ⊥) where
  abbrev past : StepsPast
  past = past_after model steps

  abbrev now : StepsPast
  now = after_deletion past ids

  given : All (IsGiven (past_after model steps)) ids
  given = All-weaker (Contains stock.alive) (IsGiven past) (λ n in_alive. in_list n in_alive) ids alive
    where
      in_list : (n : ℕ) → Contains stock.alive n → IsGiven past n
      in_list n h = subst (IsGiven past) h.2 (All-get_or (IsGiven past) stock.alive h.0 n h.1 core.alive)

  ones : All (λ (id : ℕ). 1 ≤ id) ids
  ones = All-weaker (IsGiven past) (λ (id : ℕ). 1 ≤ id) (λ n is. let clause = given-clause past n is in (number-of past n clause.0 clause.1).0) ids given

  apart : (n : ℕ) → IsInUse stock.held stock.numbers stock.stack n → All (λ (id : ℕ). id ≢ n) ids
  apart n in_use = All-from_get_or (λ (id : ℕ). id ≢ n) ids 0 (λ i below e. idle n in_use (subst (Contains ids) e (Contains-get_or ids i 0 below)))

  numbered_left : AreNumbered now stock.numbers stock.held
  numbered_left = record {
    one_each = core.numbered.one_each;
    gives = λ id is. clause_held-left past ids ones (get_or stock.numbers id.0 0) (clause_of stock.held id) (apart (get_or stock.numbers id.0 0) (inl (id, is, refl))) (core.numbered.gives id is);
  }

  justified_left : All (IsInferredJustified model now) stock.stack
  justified_left = All-from_get_or (IsInferredJustified model now) stock.stack _ (λ i below. left i below (All-get_or (IsInferredJustified model past) stock.stack i _ below core.justified))
    where
      left : (i : ℕ) → i < length stock.stack → IsInferredJustified model past (inference_at stock.stack i) → IsInferredJustified model now (inference_at stock.stack i)
      left i below j =
          let it = inference_at stock.stack i in
          record { stands = j.stands; written = still it.number refl j.written }
        where
          still : (o : Option ℕ) → (inference_at stock.stack i).number ≡ o → IfSome o (λ n. clause_held past n ≡ Some (inference_at stock.stack i).inference.clause) → IfSome o (λ n. clause_held now n ≡ Some (inference_at stock.stack i).inference.clause)
          still None e w = tt
          still (Some n) e w = clause_held-left past ids ones n (inference_at stock.stack i).inference.clause (apart n (inr (i, below, e))) w

  used_left : (n : ℕ) → IsInUse stock.held stock.numbers stock.stack n → IsGiven now n
  used_left n (inl h) = subst (IsGiven now) h.2 (ap is_some (numbered_left.gives h.0 h.1))
  used_left n (inr h) =
      let it = inference_at stock.stack h.0 in
      let j = All-get_or (IsInferredJustified model now) stock.stack h.0 _ h.1 justified_left in
      let W : Option ℕ → Type 0 = λ o. IfSome o (λ k. clause_held now k ≡ Some it.inference.clause) in
      ap is_some (subst W h.2 j.written)

  pub delete-accepted : IsAccepted model (past_after model steps) (Delete ids)
  delete-accepted = given

  pub same_learned : resolved (steps ++ Delete ids ∷ []) ≡ resolved steps
  same_learned = resolved-append steps (Delete ids ∷ []) ∙ append-nil (resolved steps)

  -- the clauses of written inferences that are left
  written_left : (left : List Given) → IsThinned stock.held stock.numbers stock.stack stock.written left → All (IsGivenBy model now) left
  written_left left thinned = All-from_get_or (IsGivenBy model now) left none (λ i below. one (get_or left i none) (All-get_or (Contains stock.written) left i none below thinned.among) (All-get_or (λ (it : Given). IsInUse stock.held stock.numbers stock.stack it.number) left i none below thinned.in_use))
    where
      none : Given
      none = record { clause = []; number = 0 }

      one : (it : Given) → Contains stock.written it → IsInUse stock.held stock.numbers stock.stack it.number → IsGivenBy model now it
      one it there in_use =
          let was = All-contains (IsGivenBy model past) stock.written it core.written there in
          (was.0, clause_held-left past ids ones it.number it.clause (apart it.number in_use) was.1)

  pub Core-deleted : (used : List ℕ) → All (IsInUse stock.held stock.numbers stock.stack) used → (left : List Given) → IsThinned stock.held stock.numbers stock.stack stock.written left → CoreOf model (record stock { written = left; alive = used }) (steps ++ Delete ids ∷ []) trail nodes
  Core-deleted used only left thinned =
      let N : List (List Lit) → Type 0 = λ cs. nodes + slack trail.sets ≤ (length cs + 1) * slack trail.declared in
      Core-more core (Delete ids) given (record stock { written = left; alive = used })
      (record {
        numbered = numbered_left;
        justified = justified_left;
        written = written_left left thinned;
        alive = All-weaker (IsInUse stock.held stock.numbers stock.stack) (IsGiven now) used_left used only;
        cuts_held = core.cuts_held;
        held_over = core.held_over;
      })
      trail refl core.reasoned (subst N (sym same_learned) core.nodes_by_conflicts)

  -- their numbers are those of steps
  pub ids-spelled : length steps < 10 ^ 18 → 0 < length ids → IdsRise ids → IsSpelled Two (Delete ids)
  ids-spelled few some rise = (refl, some, each ids (All-weaker (IsGiven past) IsNumber (λ n is. number n is) ids given), rise)
    where
      within : (k a b : ℕ) → k ≤ a → a ≡ b → b < 10 ^ 18 → k < 10 ^ 18
      within k a b h e room = omega arith

      number : (n : ℕ) → IsGiven past n → IsNumber n
      number n is =
          let clause = given-clause past n is in
          let step = number-of past n clause.0 clause.1 in
          (step.0, within n (length past.clauses) (length steps) step.1 (length-past_of model steps) few)

      each : (ns : List ℕ) → All IsNumber ns → AllByRecursion IsNumber ns
      each [] all = tt
      each (n ∷ ns) all = (All-head IsNumber n ns all, each ns (All-tail IsNumber n ns all))

-- the search that deletes them
module _ {model : Model} {old : Solver} {before : List Step} (h : IsAfter model old before) {found : Option Deletion} {it : Deletion} (is : found ≡ Some it) (next : IfSome found (λ it. IsDeletion (held_by old.clauses) old.numbers old.inferences old.alive it.ids it.left)) where
  abbrev ids : List ℕ
  ids = it.ids

  d : IsDeletion (held_by old.clauses) old.numbers old.inferences old.alive it.ids it.left
  d =
      let D : Option Deletion → Type 0 = λ o. IfSome o (λ it. IsDeletion (held_by old.clauses) old.numbers old.inferences old.alive it.ids it.left) in
      subst D is next

  pub delete-spelled : IsSpelled Two (Delete ids)
  delete-spelled = ids-spelled h.state.core ids d.among d.idle h.few_steps d.some d.rise

  pub delete-logged : (now : List Step) → (now ≡ before) ⊎ (now ≡ before ++ Delete ids ∷ []) → AllAccepted model now
  delete-logged now log = logged-accepted model before now (Delete ids) h.state.core.accepted (delete-accepted h.state.core ids d.among d.idle) log

  pub deleted-reduced : {now : List Step} → now ≡ before ++ Delete ids ∷ [] → length now < 10 ^ 18 → (number : ℕ) → number ≡ old.steps + 1 → (written : List Given) → IfSome found (λ _. IsThinned (held_by old.clauses) old.numbers old.inferences old.written written) → (notes : Notes) → IsReduced model old (record old { written = written; alive = it.left; notes = notes; steps = number }) now
  deleted-reduced now_is few number newest written thinned notes =
      let T : Option Deletion → Type 0 = λ o. IfSome o (λ _. IsThinned (held_by old.clauses) old.numbers old.inferences old.written written) in
      let core = Core-deleted h.state.core ids d.among d.idle it.left d.in_use written (subst T is thinned) in
      let R : List (List Lit) → Type 0 = λ cs. PlainOf old.trail.declared old.trail.sets (opens old.trail.declared old.trail.entries) cs old.search.nodes in
      let S : List Step → Type 0 = λ s. StateOf model old.learn (record (stock_of old) { written = written; alive = it.left }) s old.trail old.search.nodes in
      let state : S (before ++ Delete ids ∷ []) = record { core = core; plain = λ plain. subst R (sym (same_learned h.state.core ids d.among d.idle)) (h.state.plain plain) } in
      record {
        state = record {
          state = subst S (sym now_is) state;
          watching = h.watching;
          order = order-step h.order (Delete ids) now_is few refl number newest;
        };
        trail = refl;
        tally = refl;
      }
