-- The changes of a search as the code makes them.
use Rattle.std.proofs.Common.{◌≡◌, ℕ, ◌+◌, ◌^◌, ◌<◌, List, [], ◌∷◌, ◌++◌, length, map, All, Some, ℤ, refl, sym, ap, ◌∙◌, subst, arith}
use Rattle.std.proofs.lemmas.List.{length_push, length-map}
use Rattle.std.proofs.lemmas.List.Elements.{All-map, All-weaker}
use Rattle.fzn_domain.specs.declared.literal.Lit.{Lit}
use Rattle.fzn_domain.specs.Narrow.{IsClauseOver}
use Rattle.fzn_meaning.specs.declared.model.Model.{Model}
use Rattle.fzn_cert.specs.declared.step.Step.{Step}
use Rattle.fzn_cert.specs.Past.{StepsPast}
use Rattle.fzn_cert.specs.Accepted.{after_step, past_after}
use Rattle.fzn_sets.specs.Sets.{Narrowed}
use Rattle.fzn_propagator.specs.declared.inferences.Inferred.{Inferred}
use Rattle.fzn_search.specs.Fixed.{Searching}
use Rattle.fzn_trail.specs.Levels.{Levels}
use Rattle.fzn_clauses.specs.declared.clauses.Clauses.{Clauses}
use Rattle.fzn_clauses.specs.Held.{Held as Numbered}
use Rattle.fzn_clauses.specs.Propagation.{IsPropagated}
use Rattle.fzn_clauses.specs.Watching.{held_by, IsWatching}
use Rattle.fzn_strategy.specs.declared.learn.Learn.{Learn}
use Rattle.fzn_learned.specs.Reasoned.{AreOver, IsReasoned}
use Rattle.fzn_learned.proofs.CallerLemmas.{IsReasoned-grown}
use Rattle.fzn_state.specs.declared.solver.Solver.{Solver}
use Rattle.fzn_state.specs.Certified.{count, IsRunCertified}
use Rattle.fzn_state.specs.Changes.{LeavesNothing, IsStateKept, Holds}
use Rattle.fzn_state.specs.Search.{IsTestedInOrder, IsAfter, stock_of, Tally, tally_of}
use Rattle.fzn_state.specs.State.{Stock, known_in, IsInferredJustified, StateOf}
use Rattle.fzn_state.proofs.AcceptedLemmas.{past_after-push}
use Rattle.fzn_state.proofs.PropagationLemmas.{State-propagated}

-- a search of which these parts are known
pub solver-is : {trail : Levels} {search : Searching} {scratch : Narrowed} {learn : Learn} {found steps : ℕ} (new : Solver) → new.trail ≡ trail → new.search ≡ search → new.scratch ≡ scratch → new.learn ≡ learn → new.found ≡ found → new.steps ≡ steps → new ≡ record new { trail = trail; search = search; scratch = scratch; learn = learn; found = found; steps = steps }
solver-is new t s d l f k = λ i. record new { trail = t i; search = s i; scratch = d i; learn = l i; found = f i; steps = k i }

pub holds-tally : {clause : List Lit} {old new : Solver} → Holds clause old new → tally_of new ≡ tally_of old
holds-tally holds = λ i. record { nodes = (holds.search i).nodes; found = holds.found i; learn = holds.learn i }

-- one more step, which is no solution
module _ {model : Model} {tested : Narrowed} {variables solutions number : ℕ} {before : List Step} (h : IsTestedInOrder model tested variables solutions number before) {now : List Step} (step : Step) (now_is : now ≡ before ++ step ∷ []) (few : length now < 10 ^ 18) where
  count-after : count model now ≡ length (after_step model (past_after model before) step).solutions
  count-after = ap (λ (s : List Step). length (past_after model s).solutions) now_is ∙ ap (λ (p : StepsPast). length p.solutions) (past_after-push model before step)

  lengths : length now ≡ length before + 1
  lengths = ap length now_is ∙ length_push before step

  pub order-step : (after_step model (past_after model before) step).solutions ≡ (past_after model before).solutions → (next : ℕ) → next ≡ number + 1 → IsTestedInOrder model tested variables solutions next now
  order-step same next next_is = record {
    scratch = h.scratch;
    vars = h.vars;
    found_is = h.found_is ∙ sym (count-after ∙ ap length same);
    found_few = omega (arith, h.found_few, lengths);
    steps_are = next_is ∙ ap (λ (n : ℕ). n + 1) h.steps_are ∙ sym lengths;
    few_steps = few;
  }

  -- or is one
  pub order-found : (values : List ℤ) → (after_step model (past_after model before) step).solutions ≡ (past_after model before).solutions ++ values ∷ [] → IsTestedInOrder model tested variables (solutions + 1) (number + 1) now
  order-found values more = record {
    scratch = h.scratch;
    vars = h.vars;
    found_is = ap (λ (n : ℕ). n + 1) h.found_is ∙ sym (count-after ∙ ap length more ∙ length_push (past_after model before).solutions values);
    found_few = omega (arith, h.found_few, lengths);
    steps_are = ap (λ (n : ℕ). n + 1) h.steps_are ∙ sym lengths;
    few_steps = few;
  }

-- the trail is reasoned with one more held clause
pub holds-reasoned : {model : Model} {clause : List Lit} {old new : Solver} {steps : List Step} → IsAfter model old steps → Holds clause old new → IsReasoned (known_in (stock_of new)) new.trail
holds-reasoned {clause = clause} {old = old} {new = new} h holds =
    let K : Stock → Type 0 = λ k. IsReasoned (known_in k) old.trail in
    let T : Levels → Type 0 = λ t. IsReasoned (known_in (stock_of new)) t in
    subst T (sym holds.trail) (subst K (sym holds.stock) (IsReasoned-grown (known_in (stock_of old)) (Some clause ∷ []) old.trail h.state.core.reasoned))

-- all known clauses are over the variables
pub known-over : {model : Model} {solver : Solver} {steps : List Step} → IsAfter model solver steps → AreOver (length solver.trail.declared) (known_in (stock_of solver))
known-over {model = model} {solver = solver} {steps = steps} h =
    let sizes : length solver.trail.declared ≡ length model.vars = ap length h.state.core.declared ∙ length-map model.vars (λ var. var.domain) in
    let O : ℕ → Type 0 = λ n. All (IsClauseOver n) (map (λ (it : Inferred). it.inference.clause) solver.inferences) in
    record {
      held = h.state.core.held_over;
      stacked = subst O (sym sizes) (All-map (IsClauseOver (length model.vars)) (λ (it : Inferred). it.inference.clause) solver.inferences
          (All-weaker (IsInferredJustified model (past_after model steps)) (λ (it : Inferred). IsClauseOver (length model.vars) it.inference.clause) (λ it j. j.over) solver.inferences h.state.core.justified));
    }

-- ---- propagation

pub propagated-kept : {model : Model} {steps : List Step} {old : Solver} → IsAfter model old steps → (trail : Levels) (clauses : Clauses) → held_by clauses ≡ held_by old.clauses → IsPropagated (held_by old.clauses) old.trail trail → IsWatching clauses trail → IsStateKept model steps old (record old { trail = trail; clauses = clauses })
propagated-kept {model = model} {steps = steps} {old = old} h trail clauses same run watching =
    let kept = State-propagated model old.learn (stock_of old) steps old.search.nodes old.trail trail run h.state in
    let C : Numbered → Type 0 = λ cs. StateOf model old.learn (record (stock_of old) { held = cs }) steps trail old.search.nodes in
    record { state = record { state = subst C (sym same) kept.state; watching = watching; order = h.order }; less = kept.less; tally = refl }

-- ---- going on

-- a change before it that leaves the tally as it is
pub closed-from : {model : Model} {old mid new : Solver} {steps : List Step} → tally_of mid ≡ tally_of old → LeavesNothing model mid new steps → LeavesNothing model old new steps
closed-from {model = model} {new = new} {steps = steps} tally end =
    let L : Tally → Type 0 = λ t. IsRunCertified model t.learn steps new.search.nodes in
    record { certified = subst L tally end.certified; refuted = end.refuted; tally = end.tally ∙ tally; found_is = end.found_is }
