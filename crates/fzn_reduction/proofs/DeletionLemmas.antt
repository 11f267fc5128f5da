-- Numbers that rise, and those in use.
use Rattle.std.proofs.Common.{◌≡◌, ℕ, ◌+◌, ◌<◌, List, [], ◌∷◌, ◌++◌, length, get_or, All, Contains, Some, None, sym, ap, ◌∙◌, subst, inl, inr, arith}
use Rattle.std.specs.Prelude.{IsSome}
use Rattle.std.proofs.lemmas.Bool.{cases_lt}
use Rattle.std.proofs.lemmas.List.Elements.{All-nil, All-push, Contains-push, Contains-append_left}
use Rattle.fzn_cert.specs.Spelling.{IdsRise}
use Rattle.fzn_propagator.specs.declared.inferences.Inferred.{Inferred}
use Rattle.fzn_propagator.specs.Inferences.{inference_at}
use Rattle.fzn_trail.specs.declared.trail.ClauseId.{ClauseId}
use Rattle.fzn_clauses.specs.Held.{Held, IsHeld}
use Rattle.fzn_reduction.specs.Deletion.{IsOfHeld, IsOfStacked}

-- one more that is above the last
IdsRise-push : (ids : List ℕ) (n m : ℕ) → IdsRise (ids ++ n ∷ []) → n < m → IdsRise ((ids ++ n ∷ []) ++ m ∷ [])
unfolding IdsRise
IdsRise-push [] n m rise above = (above, tt)
IdsRise-push (a ∷ []) n m rise above = (rise.0, (above, tt))
IdsRise-push (a ∷ b ∷ ids) n m rise above = (rise.0, IdsRise-push (b ∷ ids) n m rise.1 above)

IdsRise-none : IdsRise []
unfolding IdsRise
IdsRise-none = tt

IdsRise-one : (n : ℕ) → IdsRise (n ∷ [])
unfolding IdsRise
IdsRise-one n = tt

-- some of the numbers that are not in use, and any above the last may be the next
abbrev pub AreIdle : List ℕ → List ℕ → List ℕ → ℕ → Type 0
AreIdle alive used ids last =
    All (Contains alive) ids × All (λ n. Contains used n → ⊥) ids × IdsRise ids × ((m : ℕ) → last < m → IdsRise (ids ++ m ∷ []))

module _ (alive used : List ℕ) where
  pub AreIdle-none : AreIdle alive used [] 0
  AreIdle-none = (All-nil (Contains alive), All-nil (λ n. Contains used n → ⊥), IdsRise-none, λ m above. IdsRise-one m)

  pub AreIdle-push : (ids : List ℕ) (last n : ℕ) → AreIdle alive used ids last → last < n → Contains alive n → (Contains used n → ⊥) → AreIdle alive used (ids ++ n ∷ []) n
  AreIdle-push ids last n h above there apart = (
    All-push (Contains alive) ids n h.0 there,
    All-push (λ k. Contains used k → ⊥) ids n h.1 apart,
    h.3 n above,
    λ m more. IdsRise-push ids n m (h.3 n above) more,
  )

-- the numbers of the clauses before a place
abbrev pub AreOfHeld : Held → List ℕ → List ℕ → ℕ → Type 0
AreOfHeld held numbers found i =
    ((id : ClauseId) → IsHeld held id → id.0 < i → Contains found (get_or numbers id.0 0)) × All (IsOfHeld held numbers) found

module _ (held : Held) (numbers found : List ℕ) (i : ℕ) (h : AreOfHeld held numbers found i) where
  pub AreOfHeld-push : (n : ℕ) → n ≡ get_or numbers i 0 → IsHeld held (record { 0 = i }) → AreOfHeld held numbers (found ++ n ∷ []) (i + 1)
  AreOfHeld-push n n_is here = (
    λ id is below. elim (cases_lt id.0 i) [
      | inl earlier ↦ Contains-append_left found (n ∷ []) (get_or numbers id.0 0) (h.0 id is earlier)
      | inr later ↦
          let same : id.0 ≡ i = omega arith in
          subst (Contains (found ++ n ∷ [])) (n_is ∙ ap (λ (k : ℕ). get_or numbers k 0) (sym same)) (Contains-push found n)
    ],
    All-push (IsOfHeld held numbers) found n h.1 (record { 0 = i }, here, sym n_is),
  )

  pub AreOfHeld-skip : (IsHeld held (record { 0 = i }) → ⊥) → AreOfHeld held numbers found (i + 1)
  AreOfHeld-skip gone = (
    λ id is below. elim (cases_lt id.0 i) [
      | inl earlier ↦ h.0 id is earlier
      | inr later ↦
          let same : id.0 ≡ i = omega arith in
          absurd (gone (subst (λ (k : ℕ). IsSome (get_or held k None)) same is))
    ],
    h.1,
  )

-- the numbers of the inferences before a place
abbrev pub AreOfStacked : List Inferred → List ℕ → ℕ → Type 0
AreOfStacked stack found i =
    ((place n : ℕ) → place < i → (inference_at stack place).number ≡ Some n → Contains found n) × All (IsOfStacked stack) found

module _ (stack : List Inferred) (found : List ℕ) (i : ℕ) (h : AreOfStacked stack found i) where
  some_same : (n m : ℕ) → Some n ≡ Some m → n ≡ m
  some_same n m e = cc

  none_some : (m : ℕ) → None ≡ Some m → ⊥
  none_some m e = cc

  at : (place n : ℕ) → place ≡ i → (inference_at stack place).number ≡ Some n → (inference_at stack i).number ≡ Some n
  at place n same e = subst (λ (k : ℕ). (inference_at stack k).number ≡ Some n) same e

  pub AreOfStacked-push : (n : ℕ) → i < length stack → (inference_at stack i).number ≡ Some n → AreOfStacked stack (found ++ n ∷ []) (i + 1)
  AreOfStacked-push n within here = (
    λ place m below is. elim (cases_lt place i) [
      | inl earlier ↦ Contains-append_left found (n ∷ []) m (h.0 place m earlier is)
      | inr later ↦
          let same : place ≡ i = omega arith in
          subst (Contains (found ++ n ∷ [])) (some_same n m (sym here ∙ at place m same is)) (Contains-push found n)
    ],
    All-push (IsOfStacked stack) found n h.1 (i, within, here),
  )

  pub AreOfStacked-skip : (inference_at stack i).number ≡ None → AreOfStacked stack found (i + 1)
  AreOfStacked-skip none = (
    λ place m below is. elim (cases_lt place i) [
      | inl earlier ↦ h.0 place m earlier is
      | inr later ↦
          let same : place ≡ i = omega arith in
          absurd (none_some m (sym none ∙ at place m same is))
    ],
    h.1,
  )
