-- Constraints that are cited.
use Rattle.std.proofs.Common.{◌≡◌, ℕ, zero, suc, ◌-◌, ◌<◌, List, [], ◌∷◌, ◌++◌, length, get_or, take, Bool, true, false, cond, refl, inl, inr, arith, ℤ, Option, Some, None, IfSome, IsSomeAnd, slice_get, eqb}
use Rattle.std.specs.List.{All, AllByRecursion}
use Rattle.std.proofs.lemmas.List.Elements.{recursion_from_All}
use Rattle.fzn_meaning.specs.declared.constraint.Constraint.{Constraint}
use Rattle.fzn_meaning.specs.Meaning.{Meets}
use Rattle.fzn_cited.specs.declared.fault.DeriveFault.{DeriveFault}
use Rattle.fzn_cited.specs.declared.fault.DeriveFault.TheVariants as faults
use Rattle.fzn_cited.specs.Cited.{constraint_at, IsCitedAs, IsCitedWrong, HoldsUpTo}

-- the values meet the constraint with this number, where there is one
abbrev pub IsCitedMet : List Constraint → List ℤ → ℕ → Type 0
IsCitedMet given values id = IfSome (constraint_at given id) (λ constraint. Meets constraint values)

-- what holds of each constraint holds of the one with a number
pub each_at : (P : Constraint → Type 0) (given : List Constraint) (id : ℕ) → All P given → IfSome (constraint_at given id) P
each_at P given id all = by_test (eqb id 0) (at given (id - 1) (recursion_from_All P given all))
  where
    at : (given : List Constraint) (k : ℕ) → AllByRecursion P given → IfSome (slice_get given k) P
    at [] k all = tt
    at (c ∷ given) zero all = all.0
    at (c ∷ given) (suc k) all = at given k all.1

    by_test : (b : Bool) → IfSome (slice_get given (id - 1)) P → IfSome (cond b None (slice_get given (id - 1))) P
    by_test true h = tt
    by_test false h = h

-- ---- up to an element

pub HoldsUpTo-here : {A : Type 0} (P Q : A → Type 0) (xs : List A) (k : ℕ) (d : A) → k < length xs → All P (take k xs) → Q (get_or xs k d) → HoldsUpTo P Q xs
HoldsUpTo-here {A} P Q xs k d lt all here = by_recursion xs k lt (recursion_from_All P (take k xs) all) here
  where
    by_recursion : (xs : List A) (k : ℕ) → k < length xs → AllByRecursion P (take k xs) → Q (get_or xs k d) → HoldsUpTo P Q xs
    by_recursion [] k lt all here = absurd (omega arith)
    by_recursion (x ∷ xs) zero lt all here = inl here
    by_recursion (x ∷ xs) (suc k) lt all here = inr (all.0, by_recursion xs k (omega arith) all.1 here)

pub HoldsUpTo-append_left : {A : Type 0} (P Q : A → Type 0) (xs ys : List A) → HoldsUpTo P Q xs → HoldsUpTo P Q (xs ++ ys)
HoldsUpTo-append_left P Q [] ys h = absurd h
HoldsUpTo-append_left P Q (x ∷ xs) ys (inl here) = inl here
HoldsUpTo-append_left P Q (x ∷ xs) ys (inr later) = inr (later.0, HoldsUpTo-append_left P Q xs ys later.1)

pub HoldsUpTo-append_right : {A : Type 0} (P Q : A → Type 0) (xs ys : List A) → All P xs → HoldsUpTo P Q ys → HoldsUpTo P Q (xs ++ ys)
HoldsUpTo-append_right {A} P Q xs ys all h = by_recursion xs (recursion_from_All P xs all)
  where
    by_recursion : (xs : List A) → AllByRecursion P xs → HoldsUpTo P Q (xs ++ ys)
    by_recursion [] all = h
    by_recursion (x ∷ xs) all = inr (all.0, by_recursion xs all.1)

-- where Q holds of nothing there is no such element
pub HoldsUpTo-none : {A : Type 0} (P Q : A → Type 0) (xs : List A) → ((x : A) → Q x → ⊥) → HoldsUpTo P Q xs → ⊥
HoldsUpTo-none P Q [] none h = h
HoldsUpTo-none P Q (x ∷ xs) none (inl here) = none x here
HoldsUpTo-none P Q (x ∷ xs) none (inr later) = HoldsUpTo-none P Q xs none later.1

-- where P holds of all, and Q of none of these, there is none either
pub HoldsUpTo-all : {A : Type 0} (P Q : A → Type 0) (xs : List A) → ((x : A) → P x → Q x → ⊥) → All P xs → HoldsUpTo P Q xs → ⊥
HoldsUpTo-all {A} P Q xs never all h = by_recursion xs (recursion_from_All P xs all) h
  where
    by_recursion : (xs : List A) → AllByRecursion P xs → HoldsUpTo P Q xs → ⊥
    by_recursion [] all h = h
    by_recursion (x ∷ xs) all (inl here) = never x all.0 here
    by_recursion (x ∷ xs) all (inr later) = by_recursion xs all.1 later.1

-- the element up to which P holds is one
pub HoldsUpTo-one : {A : Type 0} (P Q R : A → Type 0) (Same : Type 0) (xs : List A) → ((x : A) → P x → Q x → ⊥) → ((x : A) → P x → R x → ⊥) → ((x : A) → Q x → R x → Same) → HoldsUpTo P Q xs → HoldsUpTo P R xs → Same
HoldsUpTo-one P Q R Same [] q r same h k = absurd h
HoldsUpTo-one P Q R Same (x ∷ xs) q r same (inl a) (inl b) = same x a b
HoldsUpTo-one P Q R Same (x ∷ xs) q r same (inl a) (inr b) = absurd (q x b.0 a)
HoldsUpTo-one P Q R Same (x ∷ xs) q r same (inr a) (inl b) = absurd (r x a.0 b)
HoldsUpTo-one P Q R Same (x ∷ xs) q r same (inr a) (inr b) = HoldsUpTo-one P Q R Same xs q r same a.1 b.1

-- ---- what is wrong with a number

-- IsCitedWrong of what was found
Wrong : (P : Constraint → Type 0) → Option Constraint → DeriveFault → Type 0
Wrong P found faults.NoSuchConstraint = found ≡ None
Wrong P found faults.NotDerived = IsSomeAnd found (λ constraint. P constraint → ⊥)
Wrong P found _ = ⊥

wrong-found : (P : Constraint → Type 0) (given : List Constraint) (id : ℕ) (fault : DeriveFault) → IsCitedWrong P given id fault → Wrong P (constraint_at given id) fault
unfolding Wrong
wrong-found P given id faults.NoSuchConstraint wrong = wrong
wrong-found P given id faults.NotDerived wrong = wrong
wrong-found P given id faults.Memory wrong = wrong
wrong-found P given id faults.NoSuchVariable wrong = wrong

pub cited-not_wrong : (P : Constraint → Type 0) (given : List Constraint) (id : ℕ) (fault : DeriveFault) → IsCitedAs P given id → IsCitedWrong P given id fault → ⊥
unfolding Wrong
cited-not_wrong P given id fault cited wrong = by_constraint (constraint_at given id) fault cited (wrong-found P given id fault wrong)
  where
    by_constraint : (found : Option Constraint) (fault : DeriveFault) → IsSomeAnd found P → Wrong P found fault → ⊥
    by_constraint None fault h wrong = h
    by_constraint (Some c) faults.NoSuchConstraint h wrong = cc
    by_constraint (Some c) faults.NotDerived h wrong = wrong h
    by_constraint (Some c) faults.Memory h wrong = wrong
    by_constraint (Some c) faults.NoSuchVariable h wrong = wrong

pub wrong-one : (P : Constraint → Type 0) (given : List Constraint) (id : ℕ) (e f : DeriveFault) → IsCitedWrong P given id e → IsCitedWrong P given id f → e ≡ f
unfolding Wrong
wrong-one P given id e f first second = by_constraint (constraint_at given id) e f (wrong-found P given id e first) (wrong-found P given id f second)
  where
    by_constraint : (found : Option Constraint) (e f : DeriveFault) → Wrong P found e → Wrong P found f → e ≡ f
    by_constraint found faults.NoSuchConstraint faults.NoSuchConstraint first second = refl
    by_constraint None faults.NoSuchConstraint faults.NotDerived first second = absurd second
    by_constraint (Some c) faults.NoSuchConstraint faults.NotDerived first second = cc
    by_constraint None faults.NotDerived faults.NoSuchConstraint first second = absurd first
    by_constraint (Some c) faults.NotDerived faults.NoSuchConstraint first second = cc
    by_constraint found faults.NotDerived faults.NotDerived first second = refl
    by_constraint found faults.Memory f first second = absurd first
    by_constraint found faults.NoSuchVariable f first second = absurd first
    by_constraint found e faults.Memory first second = absurd second
    by_constraint found e faults.NoSuchVariable first second = absurd second
