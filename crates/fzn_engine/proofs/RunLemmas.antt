-- Going on and ending.
use Rattle.std.proofs.Common.{◌≡◌, ◌≢◌, ℕ, zero, suc, ◌==◌, ◌+◌, ◌-◌, ◌^◌, ◌<◌, ◌≤◌, ◌⊎◌, inl, Bool, true, false, ℤ, List, [], ◌∷◌, ◌++◌, length, All, Option, None, Some, refl, sym, ap, ◌∙◌, subst, arith, cond}
use Rattle.std.proofs.lemmas.Bool.Decides.{nat_tests}
use Rattle.std.proofs.lemmas.List.Elements.{All-nil}
use Rattle.fzn_domain.specs.declared.literal.Lit.{Lit}
use Rattle.fzn_domain.specs.Limits.{IsInLimits}
use Rattle.fzn_domain.specs.Narrow.{IsVariable, IsWithin, possible_in, is_some_empty}
use Rattle.fzn_meaning.specs.declared.model.Model.{Model}
use Rattle.fzn_meaning.specs.Solutions.{declared_sets, cut_of, IsExhausted}
use Rattle.fzn_meaning.specs.WellFormed.{IsWellFormed}
use Rattle.fzn_cert.specs.declared.step.Step.{Step}
use Rattle.fzn_cert.specs.declared.step.Step.TheVariants.{Resolve, Solution}
use Rattle.fzn_cert.specs.declared.step.Version.TheVariants.{Two}
use Rattle.fzn_cert.specs.Past.{no_past, IsClauseHeld}
use Rattle.fzn_cert.specs.Accepted.{IsAccepted, AllAccepted, past_after}
use Rattle.fzn_cert.proofs.SoundLaws.{accepted-proper, closed-exhausted}
use Rattle.fzn_cert.specs.Spelling.{IsSpelled}
use Rattle.fzn_trail.specs.declared.trail.ClauseId.{ClauseId}
use Rattle.fzn_trail.specs.declared.trail.Antecedent.TheVariants.{Clause}
use Rattle.fzn_trail.specs.declared.trail.Reason.TheVariants.{Decision}
use Rattle.fzn_trail.specs.Levels.{Levels, pushed, asserted}
use Rattle.fzn_clauses.specs.declared.clauses.Clauses.{Clauses}
use Rattle.fzn_clauses.specs.Watching.{held_by, IsWatching}
use Rattle.fzn_clauses.proofs.HeldLemmas.{IsHeld-newest, clause_of-newest}
use Rattle.fzn_clauses.proofs.WatchingLemmas.{IsWatching-asserted, IsWatching-pushed}
use Rattle.fzn_strategy.specs.declared.learn.Learn.{Learn}
use Rattle.fzn_strategy.specs.declared.learn.Learn.TheVariants.{Plain}
use Rattle.fzn_learned.specs.Reasoned.{IsKnown, antecedent_clause}
use Rattle.fzn_learned.proofs.CallerLemmas.{IsReasoned-decided}
use Rattle.fzn_search.specs.Fixed.{HasMany}
use Rattle.fzn_printer.specs.declared.printer.Ending.{Ending}
use Rattle.fzn_printer.specs.declared.printer.Ending.TheVariants.{Complete, Unsatisfiable, NodeLimit, SolutionLimit}
use Rattle.fzn_printer.specs.Shown.{is_closed}
use Rattle.fzn_engine.specs.declared.limits.Limits.{Limits}
use Rattle.fzn_state.specs.declared.solver.Solver.{Solver}
use Rattle.fzn_reduction.specs.Forgetting.{is_cut}
use Rattle.fzn_state.specs.Volume.{volume}
use Rattle.fzn_engine.specs.Outcome.{HasRoomForMore, IsReached, IsEnded, StopsTruly, IsOutcome}
use Rattle.fzn_state.specs.Certified.{count, IsRunCertified, HasEmptyClause}
use Rattle.fzn_engine.specs.Loop.{HasWritten, IsRecorded, Goes, Continues, IsOngoing, IsOver, closed_after, ending_of, IsWithinLimits, IsComplete}
use Rattle.fzn_state.specs.Changes.{IsStateKept, LeavesNothing, Holds}
use Rattle.fzn_engine.specs.Moves.{IsDecided}
use Rattle.fzn_state.specs.Search.{IsTestedInOrder, IsAfter, stock_of, Tally, tally_of, work_of, work}
use Rattle.fzn_state.specs.State.{Stock, known_in, with_held, with_cuts, StateOf}
use Rattle.fzn_state.proofs.AcceptedLemmas.{logged-accepted}
use Rattle.fzn_state.proofs.ChangeLemmas.{State-length, State-decided, work-decided, State-certified}
use Rattle.fzn_engine.proofs.FoundLemmas.{choices-left, solution-accepted, solution-state, cut-impossible}
use Rattle.fzn_state.proofs.SolverLemmas.{solver-is, order-found}
use Rattle.fzn_state.proofs.SpelledLemmas.{solution-spelled, values-limited}
use Rattle.fzn_engine.proofs.LoopLemmas.{within-tally}
use Rattle.fzn_state.proofs.VolumeLemmas.{volume-empty}

-- ---- nothing is left

not_zero : (k : ℕ) → (suc k == 0) ≡ false
not_zero k = grind (arith, nat_tests)

closed-truly : (model : Model) (learn : Learn) (limits : Limits) (steps : List Step) (nodes n : ℕ) → n ≡ count model steps → HasEmptyClause model steps → HasRoomForMore model.goal limits.solutions n → StopsTruly model learn limits steps nodes (closed_after n)
closed-truly model learn limits steps nodes zero found_is refuted room = (refuted, sym found_is)
closed-truly model learn limits steps nodes (suc k) found_is refuted room =
    let E : Bool → Type 0 = λ b. StopsTruly model learn limits steps nodes (cond b Unsatisfiable Complete) in
    subst E (sym (not_zero k)) (refuted, omega arith, subst (λ (n : ℕ). HasRoomForMore model.goal limits.solutions n) found_is room)

pub closed-over : {model : Model} (limits : Limits) {old new : Solver} {steps : List Step} → LeavesNothing model old new steps → IsWithinLimits model limits new → IsOver model old.learn limits new steps (closed_after new.found)
closed-over {model = model} limits {old = old} {new = new} {steps = steps} closed within = record {
  ended = record {
    certified = closed.certified;
    truly = closed-truly model old.learn limits steps new.search.nodes new.found closed.found_is closed.refuted within.1;
    few_nodes = within.0;
  };
  found_is = closed.found_is;
}

-- ---- a decision

-- what the held clauses force, and then one change of the search
module _ {model : Model} (limits : Limits) {old mid : Solver} {before : List Step} (within : IsWithinLimits model limits old) (kept : IsStateKept model before old mid) where
  pub kept-goes : (new : Solver) (steps : List Step) (goes_on : Bool) → Goes model mid new steps goes_on → Continues model limits old new steps (ending_of goes_on new.found)
  kept-goes new steps true goes =
      let behind = goes limits.nodes in
      let less = kept.less limits.nodes in
      record {
        state = behind.state;
        less = omega (arith, behind.less);
        within = within-tally model limits old new (behind.tally ∙ kept.tally) within;
        learn = ap (λ (t : Tally). t.learn) (behind.tally ∙ kept.tally);
      }
  kept-goes new steps false closed =
      let still = within-tally model limits old new (closed.tally ∙ kept.tally) within in
      subst (λ (t : Tally). IsOver model t.learn limits new steps (closed_after new.found)) kept.tally (closed-over limits closed still)

  pub kept-continues : (new : Solver) (steps : List Step) (ending : Option Ending) → Continues model limits mid new steps ending → Continues model limits old new steps ending
  kept-continues new steps None on =
      let less = kept.less limits.nodes in
      record { state = on.state; less = omega (arith, on.less); within = on.within; learn = on.learn ∙ ap (λ (t : Tally). t.learn) kept.tally }
  kept-continues new steps (Some ending) over = subst (λ (t : Tally). IsOver model t.learn limits new steps ending) kept.tally over

pub decided-ongoing : {model : Model} (limits : Limits) {old new : Solver} {steps : List Step} → IsAfter model old steps → old.trail.mark ≡ length old.trail.entries → IsWithinLimits model limits old → old.search.nodes ≢ limits.nodes → IsDecided old new → IsOngoing model limits old new steps
decided-ongoing {model = model} limits {old = old} {new = new} {steps = steps} h seen within room d =
    let lit = d.lit in
    let most = within.0 in
    let below : old.search.nodes < limits.nodes = omega arith in
    let declared : IsVariable (length old.trail.declared) lit.var = subst (λ (n : ℕ). IsVariable n lit.var) (State-length h.state) d.splits.variable in
    let reasoned = IsReasoned-decided (known_in (stock_of old)) old.trail lit h.state.core.reasoned declared d.splits.is_open in
    let state = State-decided h.state lit d.splits.variable d.splits.is_open reasoned in
    let works = work-decided limits.nodes old.search.nodes old.trail lit d.splits.variable d.splits.is_open below in
    let trail = asserted lit Decision (pushed old.trail) in
    let K : Stock → Type 0 = λ k. StateOf model old.learn k steps trail (old.search.nodes + 1) in
    let N : ℕ → Type 0 = λ n. StateOf model old.learn (stock_of new) steps trail n in
    let A : Clauses → Type 0 = λ clauses. IsWatching clauses trail in
    let W : ℕ → Type 0 = λ n. work limits.nodes n trail < work_of limits.nodes old in
    let V : ℕ → Type 0 = λ n. IsTestedInOrder model old.scratch n old.found old.steps steps in
    let nodes = d.nodes in
    let P : Solver → Type 0 = λ s. IsOngoing model limits old s steps in
    subst P (sym (solver-is new d.trail refl d.same.scratch d.same.learn d.found d.same.steps)) (record {
      state = record {
        state = subst N (sym d.nodes) (subst K (sym d.same.stock) state);
        watching = subst A (sym d.same.clauses) (IsWatching-asserted old.clauses (pushed old.trail) (IsWatching-pushed old.clauses old.trail h.watching) lit Decision d.splits.variable);
        order = subst V (sym d.vars) h.order;
      };
      less = subst W (sym d.nodes) works;
      within = (omega arith, within.1);
      learn = refl;
    })

-- ---- the node limit

pub node-limit : {model : Model} (limits : Limits) {solver : Solver} {steps : List Step} → IsAfter model solver steps → IsWithinLimits model limits solver → solver.search.nodes ≡ limits.nodes → HasMany solver.trail.sets → IsOver model solver.learn limits solver steps NodeLimit
node-limit {model = model} limits h within reached many = record {
  ended = record {
    certified = State-certified h.state;
    truly = (reached, choices-left h.state many.0 many.1 many.2, subst (λ (n : ℕ). HasRoomForMore model.goal limits.solutions n) h.found_is within.1);
    few_nodes = within.0;
  };
  found_is = h.found_is;
}

-- ---- the solution limit

pub solution-limit : {model : Model} (limits : Limits) (old : Solver) {new : Solver} {steps : List Step} → IsAfter model new steps → tally_of new ≡ record (tally_of old) { found = old.found + 1 } → IsWithinLimits model limits old → IsReached model.goal limits.solutions new.found → IsOver model old.learn limits new steps SolutionLimit
solution-limit {model = model} limits old {new = new} {steps = steps} state tally within reached =
    let R : ℕ → Type 0 = λ n. IsReached model.goal limits.solutions n in
    let L : Tally → Type 0 = λ t. IsRunCertified model t.learn steps new.search.nodes in
    let N : Tally → Type 0 = λ t. t.nodes ≤ limits.nodes in
    record {
      ended = record { certified = subst L tally (State-certified state.state); truly = subst R state.found_is reached; few_nodes = subst N (sym tally) within.0 };
      found_is = state.found_is;
    }

-- ---- a solution

-- one that passes the cuts of those before it
module _ {model : Model} (good : IsWellFormed model) {old : Solver} {before : List Step} (h : IsAfter model old before) {values : List ℤ} (accepted : IsAccepted model (past_after model before) (Solution values)) where
  pub written-limits : All IsInLimits values
  written-limits = values-limited model values good accepted.0.0

  pub written-spelled : IsSpelled Two (Solution values)
  written-spelled = solution-spelled model values good accepted.0.0

  pub written-logged : (now : List Step) → (now ≡ before) ⊎ (now ≡ before ++ Solution values ∷ []) → AllAccepted model now
  written-logged now log = logged-accepted model before now (Solution values) h.state.core.accepted accepted log

  pub written : (now : List Step) → now ≡ before ++ Solution values ∷ [] → length now < 10 ^ 18 → (id : ClauseId) → id.0 ≡ length (held_by old.clauses) → (held : Solver) → Holds (cut_of model values) old held → (flags : List Bool) → is_cut flags id ≡ true → ((other : ClauseId) → other.0 ≢ id.0 → is_cut flags other ≡ is_cut held.cuts other) → HasWritten model values old (record held { cuts = flags; found = held.found + 1 }) now id
  written now now_is few id newest held holds flags flagged others =
      let next : old.steps + 1 ≡ length before + 1 = ap (λ (n : ℕ). n + 1) h.steps_are in
      let state = solution-state h.state good values (old.steps + 1) flags id newest flagged (λ other apart. others other apart ∙ ap (λ (k : Stock). is_cut k.cuts other) holds.stock) next accepted in
      let S : List Step → Type 0 = λ s. StateOf model old.learn (with_cuts flags (with_held (cut_of model values) (old.steps + 1) (stock_of old))) s old.trail old.search.nodes in
      let K : Stock → Type 0 = λ k. StateOf model old.learn (with_cuts flags k) now old.trail old.search.nodes in
      let L : Stock → Type 0 = λ k. IsKnown (known_in k) (Clause id) in
      let clause_is : antecedent_clause (known_in (stock_of held)) (Clause id) ≡ cut_of model values =
      ap (λ (k : Stock). antecedent_clause (known_in k) (Clause id)) holds.stock ∙ clause_of-newest (held_by old.clauses) (cut_of model values) id newest in
      let P : Solver → Type 0 = λ s. HasWritten model values old (record s { cuts = flags; found = s.found + 1 }) now id in
      subst P (sym (solver-is held holds.trail holds.search holds.scratch holds.learn holds.found holds.steps)) (record {
        state = record {
          state = subst K (sym holds.stock) (subst S (sym now_is) state);
          watching = holds.keeps.watching old.trail h.watching;
          order = order-found h.order (Solution values) now_is few values refl;
        };
        known = subst L (sym holds.stock) (IsHeld-newest (held_by old.clauses) (cut_of model values) id newest);
        cut = clause_is;
        trail = refl;
        tally = refl;
      })

-- that of the fixed variables
module _ {model : Model} (good : IsWellFormed model) {old : Solver} {before : List Step} (h : IsAfter model old before) (complete : IsComplete model old) {values : List ℤ} (within : IsWithin old.trail.sets values) where
  pub record-accepted : IsAccepted model (past_after model before) (Solution values)
  record-accepted = solution-accepted h.state good values complete.fixed within complete.quiet (complete.meets complete.fixed values within)

  -- its cut is false
  pub recorded : (new : Solver) (now : List Step) (id : ClauseId) → HasWritten model values old new now id → IsRecorded model old new now id
  recorded new now id w =
      let T : Levels → Type 0 = λ trail. possible_in trail.sets (cut_of model values) ≡ [] in
      let none : possible_in new.trail.sets (cut_of model values) ≡ [] = subst T (sym w.trail) (cut-impossible h.state good values complete.fixed within) in
      record {
        state = w.state;
        conflict = record { is_known = w.known; is_false = ap (possible_in new.trail.sets) w.cut ∙ none };
        trail = w.trail;
        tally = w.tally;
      }

-- ---- an empty declared set

-- where a declared set is empty the empty clause is accepted at once
pub empty-accepted : (model : Model) → is_some_empty (declared_sets model.vars) ≡ true → IsAccepted model no_past (Resolve [] [])
empty-accepted model empty = (All-nil (λ (lit : Lit). IsVariable (length model.vars) lit.var), All-nil (IsClauseHeld no_past), inl empty)

pub empty-ended : (model : Model) (learn : Learn) (limits : Limits) → is_some_empty (declared_sets model.vars) ≡ true → (now : List Step) → now ≡ Resolve [] [] ∷ [] → IsEnded model learn limits now 0 Unsatisfiable × (count model now ≡ 0)
empty-ended model learn limits empty now is =
    let P : List Step → Type 0 = λ s. IsEnded model learn limits s 0 Unsatisfiable × (count model s ≡ 0) in
    let nothing = volume-empty (declared_sets model.vars) empty in
    subst P (sym is) (
      record {
        certified = record {
          accepted = (empty-accepted model empty, tt);
          fresh = λ in_plain some. absurd (omega arith);
          nodes_by_conflicts = omega arith;
        };
        truly = (refl, refl);
        few_nodes = omega arith;
      },
      refl,
    )

-- ---- the end

-- a node limit of at least all choices but one is never reached
never-limited : (model : Model) (learn : Learn) (limits : Limits) (steps : List Step) (nodes : ℕ) (ending : Ending) → IsEnded model learn limits steps nodes ending → learn ≡ Plain → volume (declared_sets model.vars) - 1 ≤ limits.nodes → ending ≢ NodeLimit
never-limited model learn limits steps nodes Complete h in_plain enough = λ e. cc
never-limited model learn limits steps nodes Unsatisfiable h in_plain enough = λ e. cc
never-limited model learn limits steps nodes NodeLimit h in_plain enough = λ e. let reached = h.truly.0 in let fewer = h.truly.1 in_plain in absurd (omega arith)
never-limited model learn limits steps nodes SolutionLimit h in_plain enough = λ e. cc

exhausted-if : (model : Model) (learn : Learn) (limits : Limits) (steps : List Step) (nodes : ℕ) (ending : Ending) → IsWellFormed model → IsEnded model learn limits steps nodes ending → is_closed ending ≡ true → IsExhausted model (past_after model steps).solutions
exhausted-if model learn limits steps nodes Complete good h closed = closed-exhausted model steps good h.certified.accepted h.truly.0
exhausted-if model learn limits steps nodes Unsatisfiable good h closed = closed-exhausted model steps good h.certified.accepted h.truly.0
exhausted-if model learn limits steps nodes NodeLimit good h closed = cc
exhausted-if model learn limits steps nodes SolutionLimit good h closed = cc

-- what accepted steps show
pub ended-outcome : (model : Model) → IsWellFormed model → (learn : Learn) (limits : Limits) (steps : List Step) (nodes : ℕ) (ending : Ending) → IsEnded model learn limits steps nodes ending → IsOutcome model learn limits steps nodes ending
ended-outcome model good learn limits steps nodes ending h = record {
  ended = h;
  proper = accepted-proper model steps good h.certified.accepted;
  exhausted = exhausted-if model learn limits steps nodes ending good h;
  enough_nodes = never-limited model learn limits steps nodes ending h;
}
