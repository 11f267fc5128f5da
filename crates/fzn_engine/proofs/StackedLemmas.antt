-- What an inference makes of a search.
use Rattle.std.proofs.Common.{◌≡◌, ℕ, ◌<◌, inl, inr, true, false, List, [], ◌∷◌, ◌++◌, length, refl, sym, ap, ◌∙◌, subst, arith}
use Rattle.std.proofs.lemmas.List.{length_push, length-map, get_or_push, get_or-map}
use Rattle.fzn_domain.specs.declared.literal.Lit.{Lit}
use Rattle.fzn_domain.specs.Narrow.{IsVariable, IsClauseOver, possible_in}
use Rattle.fzn_meaning.specs.declared.model.Model.{Model}
use Rattle.fzn_cert.specs.declared.step.Step.{Step}
use Rattle.fzn_propagator.specs.declared.inferences.Inferred.{Inferred}
use Rattle.fzn_propagator.specs.Inferences.{inferred}
use Rattle.fzn_trail.specs.declared.trail.Antecedent.TheVariants as antecedents
use Rattle.fzn_trail.specs.declared.trail.Reason.TheVariants.{Implied}
use Rattle.fzn_trail.specs.Unit.{IsFalseOrUnit}
use Rattle.fzn_clauses.proofs.WatchingLemmas.{IsWatching-asserted}
use Rattle.fzn_learned.specs.Reasoned.{IsKnown, antecedent_clause, IsLoneLiteral}
use Rattle.fzn_cert.specs.declared.step.Inference.{Inference}
use Rattle.fzn_state.specs.declared.solver.Solver.{Solver}
use Rattle.fzn_propagator.specs.Constraints.{IsInference}
use Rattle.fzn_engine.specs.Loop.{IsBehind}
use Rattle.fzn_engine.specs.Moves.{IsForcedBy}
use Rattle.fzn_state.specs.Search.{IsAfter, stock_of}
use Rattle.fzn_state.specs.State.{known_in}
use Rattle.fzn_state.proofs.ChangeLemmas.{State-length, State-stacked}
use Rattle.fzn_state.proofs.LearnLemmas.{forced-state, forced-works}
use Rattle.fzn_state.proofs.VariableLemmas.{variable-of}

module _ {model : Model} {old : Solver} {before : List Step} (h : IsAfter model old before) {inference : Inference} (is : IsInference model old.trail inference) where
  abbrev it : Inferred
  it = inferred inference

  -- it stands on the stack
  abbrev pub stacked : Solver
  stacked = record old { inferences = old.inferences ++ inferred inference ∷ [] }

  pub stacked-state : IsAfter model stacked before
  stacked-state = record {
    state = State-stacked h.state it (record { stands = is.stands; written = tt });
    watching = h.watching;
    order = h.order;
  }

  module _ (place : ℕ) (newest : place ≡ length old.inferences) where
    within : place < length (old.inferences ++ it ∷ [])
    within = let one = length_push old.inferences it in omega arith

    pub stacked-known : IsKnown (known_in (stock_of stacked)) (antecedents.Inference place)
    stacked-known = let count = length-map (old.inferences ++ it ∷ []) (λ (i : Inferred). i.inference.clause) in let inside = within in omega arith

    clause_in : antecedent_clause (known_in (stock_of stacked)) (antecedents.Inference place) ≡ inference.clause
    clause_in =
        get_or-map (λ (i : Inferred). i.inference.clause) (old.inferences ++ it ∷ []) place it [] within
        ∙ ap (λ (i : Inferred). i.inference.clause) (get_or_push old.inferences it it place (sym newest))

    pub stacked-over : IsClauseOver (length old.trail.declared) (antecedent_clause (known_in (stock_of stacked)) (antecedents.Inference place))
    stacked-over =
        let sizes : length old.trail.declared ≡ length model.vars = ap length h.state.core.declared ∙ length-map model.vars (λ var. var.domain) in
        let O : ℕ → Type 0 = λ n. IsClauseOver n inference.clause in
        let C : List Lit → Type 0 = λ c. IsClauseOver (length old.trail.declared) c in
        subst C (sym clause_in) (subst O (sym sizes) is.stands.over)

    forces_there : IsFalseOrUnit old.trail.sets (antecedent_clause (known_in (stock_of stacked)) (antecedents.Inference place))
    forces_there = let C : List Lit → Type 0 = λ c. IsFalseOrUnit old.trail.sets c in subst C (sym clause_in) is.forces

    forced_by : (lit : Lit) (rest : List Lit) (clause : List Lit) → possible_in old.trail.sets clause ≡ lit ∷ rest → IsFalseOrUnit old.trail.sets clause → IsLoneLiteral old.trail.sets clause lit
    forced_by lit rest clause e (inl none) = absurd (none_there lit rest (sym none ∙ e))
      where
        none_there : (l : Lit) (more : List Lit) → [] ≡ l ∷ more → ⊥
        none_there l more k = cc
    forced_by lit rest clause e (inr unit) =
        let F : Lit → Type 0 = λ l. IsLoneLiteral old.trail.sets clause l in
        subst F (first_same unit.0 lit rest (sym unit.1.only ∙ e)) (unit.1.only, unit.1.not_yet_true)
      where
        first_same : (a b : Lit) (more : List Lit) → a ∷ [] ≡ b ∷ more → a ≡ b
        first_same a b more k = cc

    -- the literal that it forces
    pub stacked-behind : (new : Solver) → IsForcedBy stacked (antecedents.Inference place) new true → (limit : ℕ) → IsBehind model limit old new before
    stacked-behind new forced limit =
        let lit = forced.0 in
        let there = forced_by lit forced.1 (antecedent_clause (known_in (stock_of stacked)) (antecedents.Inference place)) forced.2 forces_there in
        let P : Solver → Type 0 = λ s. IsBehind model limit old s before in
        let var = variable-of old.trail.sets (length old.trail.declared) (antecedent_clause (known_in (stock_of stacked)) (antecedents.Inference place)) lit forced.1 stacked-over forced.2 in
        let Var : ℕ → Type 0 = λ n. IsVariable n lit.var in
        subst P (sym forced.3) (record {
          state = record {
            state = forced-state stacked-state.state (antecedents.Inference place) lit stacked-known stacked-over there;
            watching = IsWatching-asserted old.clauses old.trail h.watching lit (Implied (antecedents.Inference place)) (subst Var (sym (State-length h.state)) var);
            order = h.order;
          };
          less = forced-works stacked-state.state (antecedents.Inference place) lit stacked-known stacked-over there limit;
          tally = refl;
        })

    -- or the search as it was, where its clause is false
    pub stacked-still : (new : Solver) → IsForcedBy stacked (antecedents.Inference place) new false → IsAfter model new before
    stacked-still new forced = let P : Solver → Type 0 = λ s. IsAfter model s before in subst P (sym forced.1) stacked-state
