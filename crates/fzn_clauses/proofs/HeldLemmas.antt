-- What is held, by numbers.
use Rattle.std.proofs.Common.{◌≡◌, ◌⊎◌, ℕ, zero, suc, ◌<◌, ◌≤◌, Bool, true, false, cond, List, [], ◌∷◌, length, get_or, set, ◌++◌, length-append, refl, sym, ap, subst, ◌∙◌, inl, inr, arith, Option, Some, None}
use Rattle.std.specs.Prelude.{IsSome}
use Rattle.std.specs.Option.{unwrap_or}
use Rattle.std.proofs.lemmas.Bool.{cases_lt, false≢true}
use Rattle.std.proofs.lemmas.List.{length-map, map-set, get_or-map, get_or_append_left, get_or_push}
use Rattle.fzn_domain.specs.declared.literal.Lit.{Lit}
use Rattle.fzn_trail.specs.declared.trail.ClauseId.{ClauseId}
use Rattle.fzn_clauses.specs.Held.{Held, IsHeld, clause_of, at_number, AllHeld, held_at, held_in}
use Rattle.fzn_clauses.specs.Watched.{Watched, nothing, watched_at, added, removed}

at_number-in : (arena : List Watched) (id : ClauseId) → id.0 < length arena → at_number (held_in arena) id ≡ held_at (watched_at arena id.0)
at_number-in arena id within = get_or-map held_at arena id.0 nothing None within

past : (held : Held) (k : ℕ) → length held ≤ k → get_or held k None ≡ None
past [] zero h = refl
past [] (suc k) h = refl
past (x ∷ held) zero h = absurd (omega (arith, h))
past (x ∷ held) (suc k) h = past held k (omega (arith, h))

some_live : (b : Bool) (lits : List Lit) → IsSome (cond b (Some lits) None) → b ≡ true
some_live true lits h = refl
some_live false lits h = absurd (false≢true h)

-- a clause that is held lies in the arena
pub held_within : (arena : List Watched) (id : ClauseId) → IsHeld (held_in arena) id → id.0 < length arena
held_within arena id is = elim (cases_lt id.0 (length arena)) [
  | inl lt ↦ lt
  | inr ge ↦ absurd (false≢true (subst IsSome (past (held_in arena) id.0 (omega (arith, ge, length-map arena held_at))) is))
]

pub held_live : (arena : List Watched) (id : ClauseId) → IsHeld (held_in arena) id → (watched_at arena id.0).live ≡ true
held_live arena id is = some_live (watched_at arena id.0).live (watched_at arena id.0).clause (subst IsSome (at_number-in arena id (held_within arena id is)) is)

live_some : (b : Bool) (lits : List Lit) → b ≡ true → IsSome (cond b (Some lits) None)
live_some true lits h = refl
live_some false lits h = cc

live_lits : (b : Bool) (lits : List Lit) → b ≡ true → unwrap_or (cond b (Some lits) None) [] ≡ lits
live_lits true lits h = refl
live_lits false lits h = cc

pub live_held : (arena : List Watched) (id : ClauseId) → id.0 < length arena → (watched_at arena id.0).live ≡ true → IsHeld (held_in arena) id
live_held arena id within live = subst IsSome (sym (at_number-in arena id within)) (live_some (watched_at arena id.0).live (watched_at arena id.0).clause live)

pub live_clause : (arena : List Watched) (id : ClauseId) → id.0 < length arena → (watched_at arena id.0).live ≡ true → clause_of (held_in arena) id ≡ (watched_at arena id.0).clause
live_clause arena id within live =
    ap (λ (o : Option (List Lit)). unwrap_or o []) (at_number-in arena id within) ∙ live_lits (watched_at arena id.0).live (watched_at arena id.0).clause live

pub held_in-removed : (arena : List Watched) (k : ℕ) → held_in (set arena k (removed (watched_at arena k))) ≡ set (held_in arena) k None
held_in-removed arena k = map-set held_at arena k (removed (watched_at arena k))

pub held_in-put : (arena : List Watched) (k : ℕ) (lits : List Lit) → held_in (set arena k (added lits)) ≡ set (held_in arena) k (Some lits)
held_in-put arena k lits = map-set held_at arena k (added lits)

-- ---- more clauses

pub IsHeld-within : (held : Held) (id : ClauseId) → IsHeld held id → id.0 < length held
IsHeld-within held id is = elim (cases_lt id.0 (length held)) [
  | inl lt ↦ lt
  | inr ge ↦ absurd (false≢true (subst IsSome (past held id.0 ge) is))
]

pub at_number-grown : (held more : Held) (id : ClauseId) → IsHeld held id → at_number (held ++ more) id ≡ at_number held id
at_number-grown held more id is = get_or_append_left held more None id.0 (IsHeld-within held id is)

pub IsHeld-grown : (held more : Held) (id : ClauseId) → IsHeld held id → IsHeld (held ++ more) id
IsHeld-grown held more id is = subst IsSome (sym (at_number-grown held more id is)) is

pub clause_of-grown : (held more : Held) (id : ClauseId) → IsHeld held id → clause_of (held ++ more) id ≡ clause_of held id
clause_of-grown held more id is = ap (λ (o : Option (List Lit)). unwrap_or o []) (at_number-grown held more id is)

module _ (held : Held) (clause : List Lit) (id : ClauseId) (newest : id.0 ≡ length held) where
  pub at_number-newest : at_number (held ++ Some clause ∷ []) id ≡ Some clause
  at_number-newest = get_or_push held (Some clause) None id.0 (sym newest)

  pub IsHeld-newest : IsHeld (held ++ Some clause ∷ []) id
  IsHeld-newest = subst IsSome (sym at_number-newest) refl

  pub clause_of-newest : clause_of (held ++ Some clause ∷ []) id ≡ clause
  clause_of-newest = ap (λ (o : Option (List Lit)). unwrap_or o []) at_number-newest

-- an older clause, or the newest one
pub IsHeld-cases : (held : Held) (clause : List Lit) (id : ClauseId) → IsHeld (held ++ Some clause ∷ []) id → IsHeld held id ⊎ (id.0 ≡ length held)
IsHeld-cases held clause id is =
    let within = IsHeld-within (held ++ Some clause ∷ []) id is in
    elim (cases_lt id.0 (length held)) [
      | inl lt ↦ inl (subst IsSome (get_or_append_left held (Some clause ∷ []) None id.0 lt) is)
      | inr ge ↦ inr (omega (arith, ge, within, length-append held (Some clause ∷ [])))
    ]

pub AllHeld-push : (P : List Lit → Type 0) (held : Held) (clause : List Lit) → AllHeld P held → P clause → AllHeld P (held ++ Some clause ∷ [])
AllHeld-push P held clause all one = λ id is. elim (IsHeld-cases held clause id is) [
  | inl older ↦ subst P (sym (clause_of-grown held (Some clause ∷ []) id older)) (all id older)
  | inr newest ↦ subst P (sym (clause_of-newest held clause id newest)) one
]
