-- Propagators that are made one after the other.
use Rattle.std.proofs.Common.{◌≡◌, ℕ, ◌+◌, ◌-◌, ◌<◌, ◌≤◌, List, All, [], ◌∷◌, ◌++◌, length, get_or, sym, ap, ◌∙◌, subst, inl, inr, arith}
use Rattle.std.proofs.lemmas.Bool.{cases_lt}
use Rattle.std.proofs.lemmas.List.{get_or_append_left, get_or_push}
use Rattle.fzn_domain.specs.IntSet.{IntSet}
use Rattle.fzn_meaning.specs.declared.constraint.Constraint.{Constraint}
use Rattle.fzn_meaning.specs.declared.model.Model.{Model}
use Rattle.fzn_meaning.specs.Solutions.{declared_sets}
use Rattle.fzn_propagators.specs.Propagators.{IsPropagatorOf}

-- where a place is_for in a list there is a member
pub some_member : {X : Type 0} (xs : List X) (k : ℕ) → k < length xs → X
some_member [] k below = absurd (omega arith)
some_member (x ∷ xs) k below = x

module _ {P : Type 0} (number : P → ℕ) (IsFor : P → Constraint → Type 0) (Fits : P → List IntSet → Type 0) where
  -- the propagators of the first n constraints
  abbrev pub AreFirst : Model → ℕ → List P → Type 0
  AreFirst model n items =
      (k : ℕ) (constraint : Constraint) (propagator : P) → k < n
      → IsPropagatorOf number IsFor Fits model (k + 1) (get_or model.constraints k constraint) (get_or items k propagator)

  module _ (model : Model) (n : ℕ) (earlier : List P) (next : P) where
    -- what is promised of the propagator of constraint n + 1
    next-is : number next ≡ n + 1 → ((constraint : Constraint) → IsFor next (get_or model.constraints (n + 1 - 1) constraint)) → Fits next (declared_sets model.vars) → (constraint : Constraint) → IsPropagatorOf number IsFor Fits model (n + 1) (get_or model.constraints n constraint) next
    next-is numbered is_for fits constraint =
        let place : n + 1 - 1 ≡ n = omega arith in record {
          numbered = numbered;
          is_for = subst (λ (k : ℕ). IsFor next (get_or model.constraints k constraint)) place (is_for constraint);
          fits = fits;
        }

    -- one more
    pub AreFirst-push : (items : List P) → items ≡ earlier ++ next ∷ [] → length earlier ≡ n → AreFirst model n earlier → number next ≡ n + 1 → ((constraint : Constraint) → IsFor next (get_or model.constraints (n + 1 - 1) constraint)) → Fits next (declared_sets model.vars) → AreFirst model (n + 1) items
    AreFirst-push items is count before numbered is_for fits k constraint propagator below =
        let R : ℕ → P → Type 0 = λ m p. IsPropagatorOf number IsFor Fits model (m + 1) (get_or model.constraints m constraint) p in
        let at_k : get_or items k propagator ≡ get_or (earlier ++ next ∷ []) k propagator = ap (λ (xs : List P). get_or xs k propagator) is in
        elim (cases_lt k n) [
          | inl inside ↦ subst (R k) (sym (at_k ∙ get_or_append_left earlier (next ∷ []) propagator k (omega arith))) (before k constraint propagator inside)
          | inr past ↦
              let last : n ≡ k = omega arith in
              subst (R k) (sym (at_k ∙ get_or_push earlier next propagator k (omega arith))) (subst (λ (m : ℕ). R m next) last (next-is numbered is_for fits constraint))
        ]

  -- each of these fits the declared sets of its model
  pub all-fit : (model : Model) (n : ℕ) (items named : List P) → n ≤ length model.constraints → named ≡ items → length items ≡ n → AreFirst model n items → All (λ p. (declared : List IntSet) × Fits p declared) named
  all-fit model n items named within is one_each first =
      let Q : P → Type 0 = λ p. (declared : List IntSet) × Fits p declared in
      subst (All Q) (sym is) (λ k d below. (declared_sets model.vars, (first k (some_member model.constraints k (omega arith)) d (omega arith)).fits))
