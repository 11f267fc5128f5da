-- Why an answer follows from the constraints of the model that are needed for those which its steps infer from.
use Rattle.std.proofs.Common.{◌≡◌, ◌↔◌, ℕ, zero, suc, ◌+◌, ◌-◌, ◌==◌, ◌≤◌, Bool, true, false, List, [], ◌∷◌, ◌++◌, ℤ, length, drop, take, get_or, Option, None, IfSome, slice_get, refl, sym, ap, subst, ◌∙◌, inl, inr, arith}
use Rattle.std.specs.Prelude.{Contains, if◌then◌else◌, slice_range}
use Rattle.std.specs.List.{All}
use Rattle.std.proofs.lemmas.List.{drop_all, length-append, length-map}
use Rattle.std.proofs.lemmas.List.Elements.{All-contains, All-cons, All-nil, Contains-get_or}
use Rattle.std.proofs.lemmas.Option.{slice_get_cases}
use Rattle.fzn_domain.specs.Narrow.{IsWithin}
use Rattle.fzn_meaning.specs.declared.constraint.Constraint.{Constraint}
use Rattle.fzn_meaning.specs.declared.model.Model.{Model}
use Rattle.fzn_meaning.specs.declared.model.Var.{Var}
use Rattle.fzn_meaning.specs.Meaning.{Meets, IsWellFormedConstraint}
use Rattle.fzn_meaning.specs.Solutions.{declared_sets, IsCovered, IsExhausted, IsSolution}
use Rattle.fzn_derive.specs.declared.derivation.Derivation.{Derivation}
use Rattle.fzn_cited.specs.Cited.{constraint_at}
use Rattle.fzn_derive.specs.Derived.{cited}
use Rattle.fzn_derive.proofs.DerivedLaws.{derived-Meets}
use Rattle.fzn_head.specs.Extended.{with_constraint, Extends}
use Rattle.fzn_head.proofs.ExtendedLaws.{IsCitable, citable-after, with_constraints, only_constraints}
use Rattle.fzn_core.specs.Core.{only, IsNeeded}
use Rattle.fzn_core.proofs.ListLemmas.{flat-in, one-at, picked-contains}

-- ---- of the same numbers the same is needed

pub needed-same : (before : ℕ) (read : List Derivation) (xs ys : List ℕ) (n : ℕ) → ((m : ℕ) → Contains xs m → Contains ys m) → IsNeeded before read xs n → IsNeeded before read ys n
needed-same before [] xs ys n same h = same n h
needed-same before (derivation ∷ later) xs ys n same h = elim h [
  | inl needed ↦ inl (needed-same (before + 1) later xs ys n same needed)
  | inr both ↦ inr (needed-same (before + 1) later xs ys (before + 1) same both.0, both.1)
]

-- ---- one more constraint

get-push : (P : Constraint → Type 0) (given : List Constraint) (constraint : Constraint) (i : ℕ) → IfSome (slice_get given i) P → (i ≡ length given → P constraint) → IfSome (slice_get (given ++ constraint ∷ []) i) P
get-push P [] constraint zero h last = last refl
get-push P [] constraint (suc i) h last = tt
get-push P (first ∷ given) constraint zero h last = h
get-push P (first ∷ given) constraint (suc i) h last = get-push P given constraint i h (λ is. last (omega (arith, is)))

at-push : (P : Constraint → Type 0) (given : List Constraint) (constraint : Constraint) (n : ℕ) → IfSome (constraint_at given n) P → (n ≡ length given + 1 → P constraint) → IfSome (constraint_at (given ++ constraint ∷ []) n) P
at-push P given constraint n h last = by_zero (n == 0) refl h
  where
    by_zero : (is_zero : Bool) → (n == 0) ≡ is_zero → IfSome (if is_zero then None else slice_get given (n - 1)) P → IfSome (if is_zero then None else slice_get (given ++ constraint ∷ []) (n - 1)) P
    by_zero true is h = tt
    by_zero false is h = get-push P given constraint (n - 1) h (λ at. last (let some : (n ≡ 0) → ⊥ = grind (arith, is) in omega (arith, at, some)))

-- ---- what is needed is met, so all is

needed-met : (model after : Model) (read : List Derivation) (numbers : List ℕ) (values : List ℤ) → IsCitable model → Extends model read after → IsWithin (declared_sets model.vars) values
    → ((n : ℕ) → IsNeeded (length model.constraints) read numbers n → IfSome (constraint_at model.constraints n) (λ constraint. Meets constraint values))
    → (n : ℕ) → Contains numbers n → IfSome (constraint_at after.constraints n) (λ constraint. Meets constraint values)
needed-met model after [] numbers values citable is within met n listed = subst (λ (m : Model). IfSome (constraint_at m.constraints n) (λ constraint. Meets constraint values)) (sym is) (met n listed)
needed-met model after (derivation ∷ later) numbers values citable (constraint, derived, rest) within met n listed =
    needed-met (with_constraint model constraint) after later numbers values (citable-after model derivation constraint citable derived) rest within met_more n listed
  where
    met_derived : IsNeeded (length model.constraints + 1) later numbers (length model.constraints + 1) → Meets constraint values
    met_derived needed =
        derived-Meets model.constraints (declared_sets model.vars) derivation constraint values
        (subst (λ (m : ℕ). All (IsWellFormedConstraint m) model.constraints) (sym (length-map model.vars (λ (var : Var). var.domain))) citable.formed) citable.booleans derived within
        (λ k d lt. met (get_or (cited derivation) k d) (inr (needed, Contains-get_or (cited derivation) k d lt)))

    met_more : (m : ℕ) → IsNeeded (length (model.constraints ++ constraint ∷ [])) later numbers m → IfSome (constraint_at (model.constraints ++ constraint ∷ []) m) (λ c. Meets c values)
    met_more m needed =
        let here : IsNeeded (length model.constraints + 1) later numbers m = subst (λ (count : ℕ). IsNeeded count later numbers m) (length-append model.constraints (constraint ∷ [])) needed in
        at-push (λ c. Meets c values) model.constraints constraint m (met m (inl here)) (λ is. met_derived (subst (IsNeeded (length model.constraints + 1) later numbers) is here))

-- ---- the constraints with these numbers

picked-one : (P : Constraint → Type 0) (given : List Constraint) (n : ℕ) → IfSome (constraint_at given n) P → All P (slice_range given (n - 1) n)
picked-one P given n h = by_zero (n == 0) refl h
  where
    none : n ≡ 0 → slice_range given (n - 1) n ≡ []
    none is = ap (λ (m : ℕ). slice_range given (m - 1) m) is

    by_zero : (is_zero : Bool) → (n == 0) ≡ is_zero → IfSome (if is_zero then None else slice_get given (n - 1)) P → All P (slice_range given (n - 1) n)
    by_zero true is h = subst (All P) (sym (none (grind (arith, is)))) (All-nil P)
    by_zero false is h =
        let some : (n ≡ 0) → ⊥ = grind (arith, is) in
        let width : n - (n - 1) ≡ 1 = omega (arith, some) in
        elim (slice_get_cases given (n - 1)).1 [
          | inl (constraint, inside, at, _) ↦
              subst (All P) (sym (ap (λ (w : ℕ). take w (drop (n - 1) given)) width ∙ one-at given (n - 1) constraint at))
              (All-cons P constraint [] (subst (λ (o : Option Constraint). IfSome o P) at h) (All-nil P))
          | inr past_end ↦
              subst (All P) (sym (ap (λ (w : ℕ). take w (drop (n - 1) given)) width ∙ ap (take 1) (drop_all (n - 1) given past_end.0))) (All-nil P)
        ]

-- values that meet the constraints with these numbers meet each of them
picked-met : (model : Model) (numbers : List ℕ) (values : List ℤ) (n : ℕ) → IsSolution (only model numbers) values → Contains numbers n → IfSome (constraint_at model.constraints n) (λ constraint. Meets constraint values)
picked-met model numbers values n solution listed = by_zero (n == 0) refl
  where
    by_zero : (is_zero : Bool) → (n == 0) ≡ is_zero → IfSome (if is_zero then None else slice_get model.constraints (n - 1)) (λ constraint. Meets constraint values)
    by_zero true is = tt
    by_zero false is =
        let some : (n ≡ 0) → ⊥ = grind (arith, is) in
        elim (slice_get_cases model.constraints (n - 1)).1 [
          | inl (constraint, inside, at, _) ↦
              subst (λ (o : Option Constraint). IfSome o (λ c. Meets c values)) (sym at)
              (All-contains (λ c. Meets c values) (only model numbers).constraints constraint solution.1 (picked-contains model.constraints numbers n constraint (omega (arith, some)) listed at))
          | inr past_end ↦ subst (λ (o : Option Constraint). IfSome o (λ c. Meets c values)) (sym past_end.1) tt
        ]

-- ---- the answer

module _ (model after : Model) (read : List Derivation) (numbers cites : List ℕ) (citable : IsCitable model) (extends : Extends model read after)
    (needed : (n : ℕ) → Contains numbers n ↔ ((1 ≤ n) × (n ≤ length model.constraints) × IsNeeded (length model.constraints) read cites n)) where
  -- whatever meets the constraints of the model that are needed meets those that are cited
  solution-cited : (values : List ℤ) → IsSolution (only model numbers) values → IsSolution (only after cites) values
  solution-cited values solution = (by_others (only_constraints model after read extends), flat-in (λ c. Meets c values) (λ n. slice_range after.constraints (n - 1) n) cites (λ n listed. picked-one (λ c. Meets c values) after.constraints n (cited_met n listed)))
    where
      own_met : (n : ℕ) → IsNeeded (length model.constraints) read cites n → IfSome (constraint_at model.constraints n) (λ constraint. Meets constraint values)
      own_met n h = by_zero (n == 0) refl
        where
          by_zero : (is_zero : Bool) → (n == 0) ≡ is_zero → IfSome (if is_zero then None else slice_get model.constraints (n - 1)) (λ constraint. Meets constraint values)
          by_zero true is = tt
          by_zero false is =
              let some : (n ≡ 0) → ⊥ = grind (arith, is) in
              elim (slice_get_cases model.constraints (n - 1)).1 [
                | inl (constraint, inside, at, _) ↦
                    subst (λ (b : Bool). IfSome (if b then None else slice_get model.constraints (n - 1)) (λ c. Meets c values)) is
                    (picked-met model numbers values n solution ((needed n).1 (omega (arith, some), omega (arith, inside), h)))
                | inr past_end ↦ subst (λ (o : Option Constraint). IfSome o (λ c. Meets c values)) (sym past_end.1) tt
              ]

      cited_met : (n : ℕ) → Contains cites n → IfSome (constraint_at after.constraints n) (λ constraint. Meets constraint values)
      cited_met = needed-met model after read cites values citable extends solution.0 own_met

      by_others : (constraints : List Constraint) × (after ≡ with_constraints model constraints) → IsWithin (declared_sets after.vars) values
      by_others (constraints, is) = subst (λ (m : Model). IsWithin (declared_sets m.vars) values) (sym is) solution.0

  same-covers : (found : List (List ℤ)) (values : List ℤ) → IsCovered after.goal after.outputs found values → IsCovered model.goal model.outputs found values
  same-covers found values = by_others (only_constraints model after read extends)
    where
      by_others : (constraints : List Constraint) × (after ≡ with_constraints model constraints) → IsCovered after.goal after.outputs found values → IsCovered model.goal model.outputs found values
      by_others (constraints, is) covers = subst (λ (m : Model). IsCovered m.goal m.outputs found values) is covers

  pub needed-exhausted : (found : List (List ℤ)) → IsExhausted (only after cites) found → IsExhausted (only model numbers) found
  needed-exhausted [] exhausted = λ values solution. exhausted values (solution-cited values solution)
  needed-exhausted (first ∷ rest) exhausted = λ values solution. same-covers (first ∷ rest) values (exhausted values (solution-cited values solution))
