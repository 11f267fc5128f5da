-- What the values are where each variable has one.
use Rattle.std.proofs.Common.{◌≡◌, ◌≢◌, ℕ, zero, suc, ◌+◌, ◌-◌, ◌*◌, ◌<◌, Bool, true, ℤ, List, [], ◌∷◌, ◌++◌, length, get_or, All, Some, sym, ap, ◌∙◌, subst, arith}
use Rattle.std.proofs.lemmas.List.{length-map}
use Rattle.std.proofs.lemmas.List.Elements.{All-head, All-tail}
use Rattle.fzn_domain.specs.IntSet.{IntSet, size, no_values}
use Rattle.fzn_domain.specs.Narrow.{IsClauseOver, IsWithin, NoneEmpty, possible_in}
use Rattle.fzn_meaning.specs.declared.model.Model.{Model}
use Rattle.fzn_meaning.specs.Meaning.{Meets}
use Rattle.fzn_meaning.specs.Solutions.{declared_sets, cut_of}
use Rattle.fzn_meaning.specs.WellFormed.{IsWellFormed}
use Rattle.fzn_meaning.proofs.CutLemmas.{cut_of-variables}
use Rattle.fzn_cert.specs.declared.step.Step.{Step}
use Rattle.fzn_cert.specs.declared.step.Step.TheVariants.{Solution}
use Rattle.fzn_cert.specs.Accepted.{IsAccepted, past_after}
use Rattle.fzn_trail.specs.declared.trail.ClauseId.{ClauseId}
use Rattle.fzn_trail.specs.Levels.{Levels}
use Rattle.fzn_clauses.specs.Held.{AllHeld}
use Rattle.fzn_strategy.specs.declared.learn.Learn.{Learn}
use Rattle.fzn_strategy.specs.declared.learn.Learn.TheVariants.{Plain}
use Rattle.fzn_learned.proofs.CallerLemmas.{IsReasoned-grown}
use Rattle.fzn_search.specs.Fixed.{AllFixed}
use Rattle.fzn_reduction.specs.Forgetting.{is_cut}
use Rattle.fzn_state.specs.Volume.{volume}
use Rattle.fzn_state.specs.State.{Stock, known_in, with_held, with_cuts, StateOf}
use Rattle.fzn_state.proofs.VolumeLemmas.{volume-filled}
use Rattle.fzn_state.proofs.WithinLemmas.{IsWithin-larger}
use Rattle.fzn_engine.proofs.CutLemmas.{cut_of-false}
use Rattle.fzn_engine.proofs.SolutionLemmas.{passes-held, false-clause}
use Rattle.fzn_state.proofs.ChangeLemmas.{State-length, State-within, State-filled, State-found}

-- two values of one set are two choices
pub many-choices : (sets : List IntSet) (k : ℕ) → NoneEmpty sets → k < length sets → 1 < size (get_or sets k no_values) → 1 < volume sets
many-choices [] k filled within many = absurd (omega arith)
many-choices (s ∷ sets) zero filled within many = times (size s) (volume sets) many (volume-filled sets (All-tail (λ (t : IntSet). 0 < size t) s sets filled))
  where
    times : (m n : ℕ) → 1 < m → 0 < n → 1 < m * n
    times m n p q = grind arith
many-choices (s ∷ sets) (suc k) filled within many =
    times (size s) (volume sets) (All-head (λ (t : IntSet). 0 < size t) s sets filled) (many-choices sets k (All-tail (λ (t : IntSet). 0 < size t) s sets filled) (omega arith) many)
  where
    times : (m n : ℕ) → 0 < m → 1 < n → 1 < m * n
    times m n p q = grind arith

module _ {model : Model} {learn : Learn} {stock : Stock} {steps : List Step} {trail : Levels} {nodes : ℕ} (h : StateOf model learn stock steps trail nodes) where
  -- where a decision is wanted two choices are left
  pub choices-left : (k : ℕ) → k < length trail.sets → 1 < size (get_or trail.sets k no_values) → learn ≡ Plain → nodes < volume (declared_sets model.vars) - 1
  choices-left k within many in_plain =
      let parts = (h.plain in_plain).nodes_by_parts in
      let two = many-choices trail.sets k (State-filled h) within many in
      let e = ap volume h.core.declared in
      omega arith

  module _ (good : IsWellFormed model) (values : List ℤ) where
    cut-over : IsClauseOver (length trail.declared) (cut_of model values)
    cut-over =
        let sizes : length trail.declared ≡ length model.vars = ap length h.core.declared ∙ length-map model.vars (λ var. var.domain) in
        let O : ℕ → Type 0 = λ n. IsClauseOver n (cut_of model values) in
        subst O (sym sizes) (cut_of-variables model values good)

    -- the cut of an accepted solution is held, and flagged
    pub solution-state : (number : ℕ) (flags : List Bool) (id : ClauseId) → id.0 ≡ length stock.held → is_cut flags id ≡ true → ((other : ClauseId) → other.0 ≢ id.0 → is_cut flags other ≡ is_cut stock.cuts other) → number ≡ length steps + 1 → IsAccepted model (past_after model steps) (Solution values) → StateOf model learn (with_cuts flags (with_held (cut_of model values) number stock)) (steps ++ Solution values ∷ []) trail nodes
    solution-state number flags id newest flagged others next accepted =
        State-found h values number flags id newest flagged others next accepted cut-over (IsReasoned-grown (known_in stock) (Some (cut_of model values) ∷ []) trail h.core.reasoned)

  module _ (good : IsWellFormed model) (values : List ℤ) (fixed : AllFixed trail.sets) (within : IsWithin trail.sets values) where
    -- the values are an accepted step
    pub solution-accepted : AllHeld (λ clause. possible_in trail.sets clause ≢ []) stock.held → All (λ constraint. Meets constraint values) model.constraints → IsAccepted model (past_after model steps) (Solution values)
    solution-accepted quiet meets =
        let same = State-length h in
        let D : List IntSet → Type 0 = λ d. IsWithin d values in
        let H : ℕ → Type 0 = λ n. AllHeld (IsClauseOver n) stock.held in (
          (subst D h.core.declared (IsWithin-larger trail.sets trail.declared values same (State-within h) within), meets),
          passes-held trail.sets values fixed within model stock.held stock.cuts (past_after model steps).solutions (subst H (sym same) h.core.held_over) quiet h.core.cuts_held,
        )

    -- the cut is false there
    pub cut-impossible : possible_in trail.sets (cut_of model values) ≡ []
    cut-impossible =
        let O : ℕ → Type 0 = λ n. IsClauseOver n (cut_of model values) in
        false-clause trail.sets values fixed within (cut_of model values) (subst O (sym (State-length h)) (cut-over good values)) (cut_of-false model values)
