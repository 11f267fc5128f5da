-- A solution that somebody else has found, taken or passed over.
use Rattle.std.proofs.Common.{◌≡◌, ℕ, ◌+◌, ◌<◌, ◌≤◌, true, ℤ, List, [], length, Option, None, Some, refl, sym, ap, ◌∙◌, subst, arith}
use Rattle.std.specs.Prelude.{IsSome}
use Rattle.std.specs.Option.{unwrap_or}
use Rattle.std.proofs.lemmas.List.{length-map}
use Rattle.std.proofs.lemmas.List.Elements.{All-weaker}
use Rattle.fzn_domain.specs.declared.literal.Lit.{Lit}
use Rattle.fzn_domain.specs.Narrow.{IsClauseOver, is_clause_true}
use Rattle.fzn_meaning.specs.declared.model.Goal.{Goal}
use Rattle.fzn_meaning.specs.declared.model.Goal.TheVariants.{Satisfy, Minimize, Maximize}
use Rattle.fzn_meaning.specs.declared.model.Model.{Model}
use Rattle.fzn_meaning.specs.Solutions.{PassesCuts, cut_of}
use Rattle.fzn_cert.specs.declared.step.Step.{Step}
use Rattle.fzn_cert.specs.Accepted.{past_after}
use Rattle.fzn_trail.specs.declared.trail.ClauseId.{ClauseId}
use Rattle.fzn_trail.specs.Levels.{Levels}
use Rattle.fzn_clauses.specs.Held.{AllHeld}
use Rattle.fzn_clauses.specs.Watching.{held_by}
use Rattle.fzn_strategy.specs.declared.learn.Learn.{Learn}
use Rattle.fzn_reduction.specs.declared.notes.Notes.{Notes}
use Rattle.fzn_printer.specs.declared.printer.Ending.{Ending}
use Rattle.fzn_engine.specs.declared.limits.Limits.{Limits}
use Rattle.fzn_state.specs.declared.solver.Solver.{Solver}
use Rattle.fzn_engine.specs.Loop.{HasWritten, IsOngoing, IsOver, Continues, IsWithinLimits}
use Rattle.fzn_engine.specs.Hinted.{AreCutsTrue, HasTakenHints, TakesHints}
use Rattle.fzn_engine.specs.Outcome.{HasRoomForMore, IsReached}
use Rattle.fzn_state.specs.Search.{IsAfter, Tally, work, work_of}
use Rattle.fzn_state.specs.State.{IsHeldCut}
use Rattle.fzn_state.proofs.ForgetLemmas.{nothing-reduced}

module _ {model : Model} {solver : Solver} {steps : List Step} (h : IsAfter model solver steps) where
  -- the held clauses are over the variables of the model
  pub over-variables : AllHeld (IsClauseOver (length model.vars)) (held_by solver.clauses)
  over-variables =
      let sizes : length solver.trail.declared ≡ length model.vars = ap length h.state.core.declared ∙ length-map model.vars (λ var. var.domain) in
      let O : ℕ → Type 0 = λ n. AllHeld (IsClauseOver n) (held_by solver.clauses) in
      subst O sizes h.state.core.held_over

  -- the cut of each solution is held, so the values make it true
  pub cuts-passed : (values : List ℤ) → AreCutsTrue (held_by solver.clauses) solver.cuts values → PassesCuts model (past_after model steps).solutions values
  cuts-passed values here =
      All-weaker (λ a. IsHeldCut (held_by solver.clauses) solver.cuts (cut_of model a)) (λ a. is_clause_true values (cut_of model a) ≡ true)
      (λ a cut.
      let T : List Lit → Type 0 = λ clause. is_clause_true values clause ≡ true in
      subst T (ap (λ (o : Option (List Lit)). unwrap_or o []) cut.2) (here cut.0 cut.1 (subst IsSome (sym cut.2) refl))) (past_after model steps).solutions h.state.core.cuts_held

  -- nothing was taken
  pub none-taken : (limits : Limits) → IsWithinLimits model limits solver → HasTakenHints model limits solver solver steps
  none-taken limits within = record { state = h; trail = refl; nodes = refl; learn = refl; within = within }

-- and something was noted
pub noted-taken : {model : Model} (limits : Limits) {old mid : Solver} {steps : List Step} → HasTakenHints model limits old mid steps → (notes : Notes) → HasTakenHints model limits old (record mid { notes = notes }) steps
noted-taken limits h notes = record { state = (nothing-reduced h.state notes).state; trail = h.trail; nodes = h.nodes; learn = h.learn; within = h.within }

-- there is room for one more solution where the limit is not reached with it
room-left : (goal : Goal) (most : Option ℕ) (n : ℕ) → HasRoomForMore goal most n → (IsReached goal most (n + 1) → ⊥) → HasRoomForMore goal most (n + 1)
room-left Satisfy None n room not_yet = tt
room-left Satisfy (Some most) n room not_yet = below room not_yet
  where
    below : {n most : ℕ} → n < most → (n + 1 ≡ most → ⊥) → n + 1 < most
    below {n = n} {most = most} h apart = omega (arith, h, apart)
room-left (Minimize var) most n room not_yet = tt
room-left (Maximize var) most n room not_yet = tt

-- a solution was taken
pub solution-taken : {model : Model} (limits : Limits) {values : List ℤ} {old new : Solver} {steps : List Step} {id : ClauseId} → HasWritten model values old new steps id → IsWithinLimits model limits old → (IsReached model.goal limits.solutions new.found → ⊥) → HasTakenHints model limits old new steps
solution-taken {model = model} limits {old = old} {new = new} w within not_yet =
    let found : new.found ≡ old.found + 1 = ap (λ (t : Tally). t.found) w.tally in
    let nodes : new.search.nodes ≡ old.search.nodes = ap (λ (t : Tally). t.nodes) w.tally in
    let R : ℕ → Type 0 = λ n. IsReached model.goal limits.solutions n → ⊥ in
    let H : ℕ → Type 0 = λ n. HasRoomForMore model.goal limits.solutions n in
    let N : ℕ → Type 0 = λ n. n ≤ limits.nodes in
    record {
      state = w.state;
      trail = w.trail;
      nodes = nodes;
      learn = ap (λ (t : Tally). t.learn) w.tally;
      within = (subst N (sym nodes) within.0, subst H (sym found) (room-left model.goal limits.solutions old.found within.1 (subst R found not_yet)));
    }

-- one hint after the other
pub hints-through : {model : Model} (limits : Limits) {old mid : Solver} (new : Solver) {before : List Step} (now : List Step) → HasTakenHints model limits old mid before → (ending : Option Ending) → TakesHints model limits mid new now ending → TakesHints model limits old new now ending
hints-through limits new now a None b = record { state = b.state; trail = b.trail ∙ a.trail; nodes = b.nodes ∙ a.nodes; learn = b.learn ∙ a.learn; within = b.within }
hints-through {model = model} limits new now a (Some ending) over =
    let L : Learn → Type 0 = λ learn. IsOver model learn limits new now ending in
    subst L a.learn over

-- what was begun goes on
pub hints-continue : {model : Model} (limits : Limits) {old mid : Solver} (new : Solver) {before : List Step} (now : List Step) → IsOngoing model limits old mid before → (ending : Option Ending) → TakesHints model limits mid new now ending → Continues model limits old new now ending
hints-continue limits {old = old} {mid = mid} new now o None h =
    let T : Levels → Type 0 = λ trail. work limits.nodes new.search.nodes trail < work_of limits.nodes old in
    let N : ℕ → Type 0 = λ n. work limits.nodes n mid.trail < work_of limits.nodes old in
    record { state = h.state; less = subst T (sym h.trail) (subst N (sym h.nodes) o.less); within = h.within; learn = h.learn ∙ o.learn }
hints-continue {model = model} limits new now o (Some ending) over =
    let L : Learn → Type 0 = λ learn. IsOver model learn limits new now ending in
    subst L o.learn over
