-- The numbers of steps, and what becomes of them as steps are written.
use Rattle.std.proofs.Common.{◌≡◌, ℕ, ◌+◌, ◌-◌, ◌<◌, ◌≤◌, ◌==◌, Bool, true, false, cond, inl, inr, List, [], ◌∷◌, ◌++◌, length, get_or, All, is_some, Some, None, Option, IfSome, unwrap_or, refl, sym, ap, ap₂, ◌∙◌, subst, arith}
use Rattle.std.specs.Prelude.{IsSome}
use Rattle.std.proofs.lemmas.Bool.{cases_lt, false≢true}
use Rattle.std.proofs.lemmas.Bool.Decides.{nat_tests}
use Rattle.std.proofs.lemmas.List.{map-append, length_push, get_or_append_left, get_or_push, get_or_past}
use Rattle.std.proofs.lemmas.List.Elements.{All-nil, All-cons, All-push, All-weaker}
use Rattle.fzn_domain.specs.declared.literal.Lit.{Lit}
use Rattle.fzn_cert.specs.Past.{StepsPast, clause_held, IsClauseHeld, clauses_held}
use Rattle.fzn_meaning.specs.declared.model.Model.{Model}
use Rattle.fzn_propagator.specs.declared.inferences.Inferred.{Inferred}
use Rattle.fzn_clauses.specs.Held.{Held, clause_of}
use Rattle.fzn_clauses.proofs.HeldLemmas.{IsHeld-within, IsHeld-cases, clause_of-grown, clause_of-newest}
use Rattle.fzn_reduction.specs.declared.written.Given.{Given}
use Rattle.fzn_state.specs.State.{Give, AreNumbered, IsInferredJustified, IsGivenBy}

-- a past with one more entry among the clauses
abbrev pub Grows : StepsPast → StepsPast → Option (List Lit) → Type 0
Grows old new entry = new.clauses ≡ old.clauses ++ entry ∷ []

by_number : (clauses : List (Option (List Lit))) (n : ℕ) → Option (List Lit)
by_number clauses n = cond (n == 0) None (get_or clauses (n - 1) None)

none_is : {X : Type 0} (x : X) → None ≡ Some x → ⊥
none_is x e = cc

-- a step that gives a clause still gives it behind later ones
pub clause_held-grown : (old new : StepsPast) (entry : Option (List Lit)) (n : ℕ) (clause : List Lit) → Grows old new entry → clause_held old n ≡ Some clause → clause_held new n ≡ Some clause
clause_held-grown old new entry n clause grows is = by_zero (n == 0) refl
  where
    there : (n - 1) < length old.clauses → get_or new.clauses (n - 1) None ≡ get_or old.clauses (n - 1) None
    there below = ap (λ (cs : List (Option (List Lit))). get_or cs (n - 1) None) grows ∙ get_or_append_left old.clauses (entry ∷ []) None (n - 1) below

    by_zero : (b : Bool) → (n == 0) ≡ b → clause_held new n ≡ Some clause
    by_zero true e = absurd (none_is clause (sym (ap (λ (b : Bool). cond b None (get_or old.clauses (n - 1) None)) e) ∙ is))
    by_zero false e =
        let at : get_or old.clauses (n - 1) None ≡ Some clause = sym (ap (λ (b : Bool). cond b None (get_or old.clauses (n - 1) None)) e) ∙ is in
        let below : (n - 1) < length old.clauses = within (n - 1) at in
        ap (λ (b : Bool). cond b None (get_or new.clauses (n - 1) None)) e ∙ there below ∙ at
      where
        within : (k : ℕ) → get_or old.clauses k None ≡ Some clause → k < length old.clauses
        within k at = elim (cases_lt k (length old.clauses)) [
          | inl below ↦ below
          | inr past ↦ absurd (none_is clause (sym (get_or_past old.clauses k None past) ∙ at))
        ]

-- the newest step gives its clause
pub clause_held-newest : (old new : StepsPast) (clause : List Lit) → Grows old new (Some clause) → clause_held new (length old.clauses + 1) ≡ Some clause
clause_held-newest old new clause grows =
    ap (λ (b : Bool). cond b None (get_or new.clauses (length old.clauses + 1 - 1) None)) (not_zero (length old.clauses))
    ∙ ap₂ (λ (cs : List (Option (List Lit))) (k : ℕ). get_or cs k None) grows (less_one (length old.clauses))
    ∙ get_or_push old.clauses (Some clause) None (length old.clauses) refl
  where
    not_zero : (k : ℕ) → ((k + 1) == 0) ≡ false
    not_zero k = grind (arith, nat_tests)

    less_one : (k : ℕ) → k + 1 - 1 ≡ k
    less_one k = omega arith

-- a number that gives a clause is one of a step
pub number-of : (past : StepsPast) (n : ℕ) (clause : List Lit) → clause_held past n ≡ Some clause → (1 ≤ n) × (n ≤ length past.clauses)
number-of past n clause is = by_zero (n == 0) refl
  where
    above : (n == 0) ≡ false → 1 ≤ n
    above e = grind (arith, nat_tests)

    by_zero : (b : Bool) → (n == 0) ≡ b → (1 ≤ n) × (n ≤ length past.clauses)
    by_zero true e = absurd (none_is clause (sym (ap (λ (b : Bool). cond b None (get_or past.clauses (n - 1) None)) e) ∙ is))
    by_zero false e =
        let one = above e in
        let at : get_or past.clauses (n - 1) None ≡ Some clause = sym (ap (λ (b : Bool). cond b None (get_or past.clauses (n - 1) None)) e) ∙ is in
        elim (cases_lt (n - 1) (length past.clauses)) [
          | inl below ↦ (one, omega arith)
          | inr beyond ↦ absurd (none_is clause (sym (get_or_past past.clauses (n - 1) None beyond) ∙ at))
        ]

-- lists of numbers
pub Give-push : (past : StepsPast) (numbers : List ℕ) (clauses : List (List Lit)) (n : ℕ) (clause : List Lit) → Give past numbers clauses → clause_held past n ≡ Some clause → Give past (numbers ++ n ∷ []) (clauses ++ clause ∷ [])
Give-push past numbers clauses n clause h one =
    map-append (clause_held past) numbers (n ∷ []) ∙ ap₂ (λ (xs ys : List (Option (List Lit))). xs ++ ys) h (ap (λ (o : Option (List Lit)). o ∷ []) one) ∙ sym (map-append Some clauses (clause ∷ []))

-- what a chain of steps rests on
pub Give-chain : (past : StepsPast) (numbers : List ℕ) (clauses : List (List Lit)) → Give past numbers clauses → All (IsClauseHeld past) numbers × (clauses_held past numbers ≡ clauses)
Give-chain past [] [] h = (All-nil (IsClauseHeld past), refl)
Give-chain past [] (clause ∷ clauses) h = cc
Give-chain past (n ∷ numbers) [] h = cc
Give-chain past (n ∷ numbers) (clause ∷ clauses) h =
    let one : clause_held past n ≡ Some clause = cc in
    let rest = Give-chain past numbers clauses cc in
    (All-cons (IsClauseHeld past) n numbers (ap is_some one) rest.0, ap₂ (λ (c : List Lit) (cs : List (List Lit)). c ∷ cs) (ap (λ (o : Option (List Lit)). unwrap_or o []) one) rest.1)

-- so with the numbers of held clauses
pub AreNumbered-grown : (old new : StepsPast) (entry : Option (List Lit)) (numbers : List ℕ) (held : Held) → Grows old new entry → AreNumbered old numbers held → AreNumbered new numbers held
AreNumbered-grown old new entry numbers held grows h = record {
  one_each = h.one_each;
  gives = λ id is. clause_held-grown old new entry (get_or numbers id.0 0) (clause_of held id) grows (h.gives id is);
}

pub AreNumbered-push : (past : StepsPast) (numbers : List ℕ) (held : Held) (n : ℕ) (clause : List Lit) → AreNumbered past numbers held → clause_held past n ≡ Some clause → AreNumbered past (numbers ++ n ∷ []) (held ++ Some clause ∷ [])
AreNumbered-push past numbers held n clause h one = record {
  one_each = length_push numbers n ∙ ap (λ (k : ℕ). k + 1) h.one_each ∙ sym (length_push held (Some clause));
  gives = λ id is. elim (IsHeld-cases held clause id is) [
    | inl older ↦
        let within : id.0 < length numbers = omega (arith, h.one_each, IsHeld-within held id older) in
        ap (clause_held past) (get_or_append_left numbers (n ∷ []) 0 id.0 within) ∙ h.gives id older ∙ ap Some (sym (clause_of-grown held (Some clause ∷ []) id older))
    | inr newest ↦ ap (clause_held past) (get_or_push numbers n 0 id.0 (h.one_each ∙ sym newest)) ∙ one ∙ ap Some (sym (clause_of-newest held clause id newest))
  ];
}

-- an inference stays justified
pub IsJustified-grown : (model : Model) (old new : StepsPast) (entry : Option (List Lit)) (it : Inferred) → Grows old new entry → IsInferredJustified model old it → IsInferredJustified model new it
IsJustified-grown model old new entry it grows h = record { stands = h.stands; written = still it.number h.written }
  where
    still : (number : Option ℕ) → IfSome number (λ n. clause_held old n ≡ Some it.inference.clause) → IfSome number (λ n. clause_held new n ≡ Some it.inference.clause)
    still None w = tt
    still (Some n) w = clause_held-grown old new entry n it.inference.clause grows w

-- the clauses of written inferences stay given
pub AreGivenBy-grown : (model : Model) (old new : StepsPast) (entry : Option (List Lit)) (written : List Given) → Grows old new entry → All (IsGivenBy model old) written → All (IsGivenBy model new) written
AreGivenBy-grown model old new entry written grows all =
    All-weaker (IsGivenBy model old) (IsGivenBy model new) (λ it h. (h.0, clause_held-grown old new entry it.number it.clause grows h.1)) written all

-- ---- steps that may be deleted

pub given-clause : (past : StepsPast) (n : ℕ) → IsClauseHeld past n → (clause : List Lit) × (clause_held past n ≡ Some clause)
given-clause past n is = by_clause (clause_held past n) refl
  where
    by_clause : (o : Option (List Lit)) → clause_held past n ≡ o → (clause : List Lit) × (clause_held past n ≡ Some clause)
    by_clause None e = absurd (false≢true (subst IsSome e is))
    by_clause (Some clause) e = (clause, e)

-- one more step, and its number
pub AreGiven-push : (old new : StepsPast) (numbers : List ℕ) (n : ℕ) (clause : List Lit) → Grows old new (Some clause) → All (IsClauseHeld old) numbers → clause_held new n ≡ Some clause → All (IsClauseHeld new) (numbers ++ n ∷ [])
AreGiven-push old new numbers n clause grows all one =
    All-push (IsClauseHeld new) numbers n
    (All-weaker (IsClauseHeld old) (IsClauseHeld new) (λ k is. let given = given-clause old k is in ap is_some (clause_held-grown old new (Some clause) k given.0 grows given.1)) numbers all)
    (ap is_some one)
