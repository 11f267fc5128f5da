-- What parities derive is well formed, and it is one.
use Rattle.std.proofs.Common.{◌≡◌, ℕ, zero, suc, ◌+◌, ◌≤◌, ◌%◌, Bool, true, false, cond, eqb, List, [], ◌∷◌, ◌++◌, length, map, refl, sym, ap, subst, ◌∙◌, ◌⊎◌, inl, inr, arith, pos, Option, Some, None, IfSome, IsSomeAnd, length-append, rules}
use Rattle.std.specs.Option.{option_and_then}
use Rattle.std.specs.List.{All, AllByRecursion, Contains, cons_option}
use Rattle.std.proofs.lemmas.List.{length-map}
use Rattle.std.proofs.lemmas.List.Elements.{recursion_from_All, All-from_recursion, All-append, All-nil, All-cons}
use Rattle.fzn_domain.specs.IntSet.{IntSet}
use Rattle.fzn_values.specs.declared.term.Term.{Term}
use Rattle.fzn_values.specs.declared.term.Term.TheVariants.{Constant, Variable}
use Rattle.fzn_meaning.specs.declared.relation.Relation.TheVariants as relation
use Rattle.fzn_meaning.specs.declared.constraint.Constraint.{Constraint}
use Rattle.fzn_meaning.specs.declared.constraint.Constraint.TheVariants as constraint
use Rattle.fzn_values.specs.Term.{IsTerm}
use Rattle.fzn_meaning.specs.Meaning.{IsWellFormedConstraint, AreTerms, IsBoolean, HasBooleanSets, booleans_of}
use Rattle.fzn_cited.specs.declared.fault.DeriveFault.{DeriveFault}
use Rattle.fzn_cited.specs.declared.fault.DeriveFault.TheVariants as faults
use Rattle.fzn_cited.specs.Cited.{constraint_at, IsCitedAs, IsCitedWrong}
use Rattle.fzn_derive.specs.Parity.{Parity, parity_of, SaysParity, parities, terms_together, odd_together, variable_numbers, ones_in, AreOddIn, variable_with, one_if_even, parity_inputs, IsParity, IsSumsFault, IsParityFault}
use Rattle.fzn_cited.proofs.CitedLemmas.{each_at, cited-not_wrong, wrong-one, HoldsUpTo-none, HoldsUpTo-all, HoldsUpTo-one}
use Rattle.fzn_derive.proofs.OddLemmas.{times, Contains-times, odd_in-one}

-- ---- what holds of all terms holds of the inputs

-- of the terms of each sum
of-sums : (P : Term → Type 0) (sums : List Parity) → AllByRecursion (λ (sum : Parity). AllByRecursion P sum.terms) sums → AllByRecursion P (terms_together sums)
of-sums P [] all = tt
of-sums P (sum ∷ sums) all = behind sum.terms all.0 (of-sums P sums all.1)
  where
    behind : (terms : List Term) → AllByRecursion P terms → AllByRecursion P (terms_together sums) → AllByRecursion P (terms ++ terms_together sums)
    behind [] here rest = rest
    behind (term ∷ terms) here rest = (here.0, behind terms here.1 rest)

-- of the variable with a number that stands among them
of-number : (P : Term → Type 0) (terms : List Term) (n : ℕ) → AllByRecursion P terms → Contains (variable_numbers terms) n → P (variable_with n)
of-number P [] n all (k, lt, e) = absurd (omega arith)
of-number P (Constant k ∷ terms) n all c = of-number P terms n all.1 c
of-number P (Variable var ∷ terms) n all (zero, lt, e) = subst (λ (m : ℕ). P (variable_with m)) e all.0
of-number P (Variable var ∷ terms) n all (suc k, lt, e) = of-number P terms n all.1 (k, omega arith, e)

of-numbers : (P : Term → Type 0) (terms : List Term) (odd : List ℕ) → AllByRecursion P terms → AreOddIn (variable_numbers terms) odd → All P (map variable_with odd)
of-numbers P terms odd all are_odd = All-from_recursion P (map variable_with odd) (each odd (λ n c. (are_odd.each n).0 c))
  where
    stands : (n : ℕ) → times n (variable_numbers terms) % 2 ≡ 1 → Contains (variable_numbers terms) n
    stands n e = Contains-times n (variable_numbers terms) (omega arith)

    each : (some : List ℕ) → ((n : ℕ) → Contains some n → times n (variable_numbers terms) % 2 ≡ 1) → AllByRecursion P (map variable_with some)
    each [] members = tt
    each (n ∷ some) members = (of-number P terms n all (stands n (members n (0, omega arith, refl))), each some (λ m (k, lt, e). members m (suc k, omega arith, e)))

of-inputs : (P : Term → Type 0) (sums : List Parity) (odd : List ℕ) → P (Constant (pos 1)) → AllByRecursion P (terms_together sums) → AreOddIn (variable_numbers (terms_together sums)) odd → All P (parity_inputs sums odd)
of-inputs P sums odd one all are_odd = All-append P (map variable_with odd) (one_if_even (odd_together sums + ones_in (terms_together sums))) (of-numbers P (terms_together sums) odd all are_odd) (last (odd_together sums + ones_in (terms_together sums)))
  where
    by_test : (b : Bool) → All P (cond b (Constant (pos 1) ∷ []) [])
    by_test true = All-cons P (Constant (pos 1)) [] one (All-nil P)
    by_test false = All-nil P

    last : (n : ℕ) → All P (one_if_even n)
    last n = by_test (eqb (n % 2) 0)

-- ---- the derived constraint

sum-formed : (count : ℕ) (c : Constraint) → IsWellFormedConstraint count c → IfSome (parity_of c) (λ sum. AllByRecursion (IsTerm count) sum.terms)
unfolding IsWellFormedConstraint parity_of
sum-formed count (constraint.ArrayBoolXor inputs) formed = recursion_from_All (IsTerm count) inputs formed.0
sum-formed count (constraint.BoolNot left right) formed = (formed.0, (formed.1, tt))
sum-formed count (constraint.BoolXor left right result) formed = (formed.0, (formed.1, (formed.2, tt)))
sum-formed count (constraint.Compare relation.Equal left right None) formed = (formed.0, (formed.1, tt))
sum-formed count (constraint.BoolToInt boolean integer) formed = (formed.0, (formed.1, tt))
sum-formed count _ formed = tt

sums-formed : (given : List Constraint) (count : ℕ) (ids : List ℕ) → All (IsWellFormedConstraint count) given → AllByRecursion (λ (sum : Parity). AllByRecursion (IsTerm count) sum.terms) (parities given ids)
sums-formed given count [] formed = tt
sums-formed given count (id ∷ ids) formed = by_constraint (constraint_at given id) (each_at (IsWellFormedConstraint count) given id formed) (sums-formed given count ids formed)
  where
    by_sum : (found : Option Parity) → IfSome found (λ sum. AllByRecursion (IsTerm count) sum.terms) → AllByRecursion (λ (sum : Parity). AllByRecursion (IsTerm count) sum.terms) (parities given ids) → AllByRecursion (λ (sum : Parity). AllByRecursion (IsTerm count) sum.terms) (cons_option found (parities given ids))
    by_sum None h rest = rest
    by_sum (Some sum) h rest = (h, rest)

    by_constraint : (found : Option Constraint) → IfSome found (IsWellFormedConstraint count) → AllByRecursion (λ (sum : Parity). AllByRecursion (IsTerm count) sum.terms) (parities given ids) → AllByRecursion (λ (sum : Parity). AllByRecursion (IsTerm count) sum.terms) (cons_option (option_and_then parity_of found) (parities given ids))
    by_constraint None h rest = rest
    by_constraint (Some c) h rest = by_sum (parity_of c) (sum-formed count c h) rest

sums-Boolean : (given : List Constraint) (declared : List IntSet) (ids : List ℕ) → AllByRecursion (IsCitedAs (SaysParity declared) given) ids → AllByRecursion (λ (sum : Parity). AllByRecursion (IsBoolean declared) sum.terms) (parities given ids)
sums-Boolean given declared [] says = tt
sums-Boolean given declared (id ∷ ids) says = by_constraint (constraint_at given id) says.0 (sums-Boolean given declared ids says.1)
  where
    by_sum : (found : Option Parity) → IsSomeAnd found (λ sum. All (IsBoolean declared) sum.terms) → AllByRecursion (λ (sum : Parity). AllByRecursion (IsBoolean declared) sum.terms) (parities given ids) → AllByRecursion (λ (sum : Parity). AllByRecursion (IsBoolean declared) sum.terms) (cons_option found (parities given ids))
    by_sum None h rest = absurd h
    by_sum (Some sum) h rest = (recursion_from_All (IsBoolean declared) sum.terms h, rest)

    by_constraint : (found : Option Constraint) → IsSomeAnd found (SaysParity declared) → AllByRecursion (λ (sum : Parity). AllByRecursion (IsBoolean declared) sum.terms) (parities given ids) → AllByRecursion (λ (sum : Parity). AllByRecursion (IsBoolean declared) sum.terms) (cons_option (option_and_then parity_of found) (parities given ids))
    by_constraint None h rest = absurd h
    by_constraint (Some c) h rest = by_sum (parity_of c) h rest

-- it is well formed
pub parity-formed : (given : List Constraint) (declared : List IntSet) (count : ℕ) (ids : List ℕ) (c : Constraint) → All (IsWellFormedConstraint count) given → IsParity given declared ids c → IsWellFormedConstraint count c
unfolding IsWellFormedConstraint
parity-formed given declared count ids (constraint.ArrayBoolXor inputs) formed parity =
    let sums : List Parity = parities given ids in
    let odd : List ℕ = parity.1.0 in
    let terms = of-inputs (IsTerm count) (parities given ids) parity.1.0 one_within (of-sums (IsTerm count) (parities given ids) (sums-formed given count ids formed)) parity.1.1 in
    let long = length-append (map variable_with parity.1.0) (one_if_even (odd_together (parities given ids) + ones_in (terms_together (parities given ids)))) in
    let variables = length-map parity.1.0 variable_with in
    let last = one_more (odd_together (parities given ids) + ones_in (terms_together (parities given ids))) in
    let short = parity.1.2 in
    subst (AreTerms count) (sym parity.1.3) (terms, omega arith)
  where
    one_within : IsTerm count (Constant (pos 1))
    one_within = search rules

    by_test : (b : Bool) → length (cond b (Constant (pos 1) ∷ []) []) ≤ 1
    by_test true = omega arith
    by_test false = omega arith

    one_more : (n : ℕ) → length (one_if_even n) ≤ 1
    one_more n = by_test (eqb (n % 2) 0)
parity-formed given declared count ids _ formed parity = absurd parity

-- its terms are 0 or 1
pub parity-Boolean : (given : List Constraint) (declared : List IntSet) (ids : List ℕ) (c : Constraint) → IsParity given declared ids c → HasBooleanSets declared c
unfolding booleans_of
parity-Boolean given declared ids (constraint.ArrayBoolXor inputs) parity =
    let says = recursion_from_All (IsCitedAs (SaysParity declared) given) ids parity.0 in
    subst (All (IsBoolean declared)) (sym parity.1.3) (of-inputs (IsBoolean declared) (parities given ids) parity.1.0 (inr refl) (of-sums (IsBoolean declared) (parities given ids) (sums-Boolean given declared ids says)) parity.1.1)
parity-Boolean given declared ids _ parity = absurd parity

-- ---- one derivation gives one constraint, or one fault

pub parity-one : (given : List Constraint) (declared : List IntSet) (ids : List ℕ) (c d : Constraint) → IsParity given declared ids c → IsParity given declared ids d → c ≡ d
parity-one given declared ids (constraint.ArrayBoolXor inputs) (constraint.ArrayBoolXor others) first second =
    let same = odd_in-one (variable_numbers (terms_together (parities given ids))) first.1.0 second.1.0 first.1.1 second.1.1 in
    ap constraint.ArrayBoolXor (first.1.3 ∙ ap (parity_inputs (parities given ids)) same ∙ sym second.1.3)
parity-one given declared ids (constraint.ArrayBoolXor inputs) _ first second = absurd second
parity-one given declared ids _ d first second = absurd first

not-both : (given : List Constraint) (declared : List IntSet) (ids : List ℕ) (fault : DeriveFault) → All (IsCitedAs (SaysParity declared) given) ids → IsSumsFault given declared ids fault → ⊥
not-both given declared ids fault all wrong = HoldsUpTo-all (IsCitedAs (SaysParity declared) given) (λ (id : ℕ). IsCitedWrong (SaysParity declared) given id fault) ids (λ id. cited-not_wrong (SaysParity declared) given id fault) all wrong

pub parity-no_fault : (given : List Constraint) (declared : List IntSet) (ids : List ℕ) (c : Constraint) (fault : DeriveFault) → IsParity given declared ids c → IsParityFault given declared ids fault → ⊥
parity-no_fault given declared ids (constraint.ArrayBoolXor inputs) faults.Memory parity wrong = wrong
parity-no_fault given declared ids (constraint.ArrayBoolXor inputs) faults.NoSuchVariable parity wrong = wrong
parity-no_fault given declared ids (constraint.ArrayBoolXor inputs) faults.NoSuchConstraint parity wrong = not-both given declared ids faults.NoSuchConstraint parity.0 wrong
parity-no_fault given declared ids (constraint.ArrayBoolXor inputs) faults.NotDerived parity (inl wrong) = not-both given declared ids faults.NotDerived parity.0 wrong
parity-no_fault given declared ids (constraint.ArrayBoolXor inputs) faults.NotDerived parity (inr many) =
    let same = odd_in-one (variable_numbers (terms_together (parities given ids))) parity.1.0 many.1.0 parity.1.1 many.1.1 in
    let few = parity.1.2 in
    let more = many.1.2 in
    let long : length parity.1.0 ≡ length many.1.0 = ap length same in
    absurd (omega arith)
parity-no_fault given declared ids _ fault parity wrong = parity

-- a fault is of a number, or there are too many variables
fault-parts : (given : List Constraint) (declared : List IntSet) (ids : List ℕ) (fault : DeriveFault) → IsParityFault given declared ids fault → IsSumsFault given declared ids fault ⊎ ((fault ≡ faults.NotDerived) × All (IsCitedAs (SaysParity declared) given) ids)
fault-parts given declared ids faults.Memory wrong = absurd wrong
fault-parts given declared ids faults.NoSuchVariable wrong = absurd wrong
fault-parts given declared ids faults.NoSuchConstraint wrong = inl wrong
fault-parts given declared ids faults.NotDerived (inl wrong) = inl wrong
fault-parts given declared ids faults.NotDerived (inr many) = inr (refl, many.0)

pub parity-one_fault : (given : List Constraint) (declared : List IntSet) (ids : List ℕ) (e f : DeriveFault) → IsParityFault given declared ids e → IsParityFault given declared ids f → e ≡ f
parity-one_fault given declared ids e f first second = by_parts (fault-parts given declared ids e first) (fault-parts given declared ids f second)
  where
    by_parts : IsSumsFault given declared ids e ⊎ ((e ≡ faults.NotDerived) × All (IsCitedAs (SaysParity declared) given) ids) → IsSumsFault given declared ids f ⊎ ((f ≡ faults.NotDerived) × All (IsCitedAs (SaysParity declared) given) ids) → e ≡ f
    by_parts (inl a) (inl b) = HoldsUpTo-one (IsCitedAs (SaysParity declared) given) (λ (id : ℕ). IsCitedWrong (SaysParity declared) given id e) (λ (id : ℕ). IsCitedWrong (SaysParity declared) given id f) (e ≡ f) ids (λ id. cited-not_wrong (SaysParity declared) given id e) (λ id. cited-not_wrong (SaysParity declared) given id f) (λ id. wrong-one (SaysParity declared) given id e f) a b
    by_parts (inl a) (inr b) = absurd (not-both given declared ids e b.1 a)
    by_parts (inr a) (inl b) = absurd (not-both given declared ids f a.1 b)
    by_parts (inr a) (inr b) = a.0 ∙ sym b.0

-- what is wrong with a number is wrong with the derivation
pub sums-fault : (given : List Constraint) (declared : List IntSet) (ids : List ℕ) (fault : DeriveFault) → (fault ≡ faults.Memory) ⊎ IsSumsFault given declared ids fault → (fault ≡ faults.Memory) ⊎ IsParityFault given declared ids fault
sums-fault given declared ids fault (inl memory) = inl memory
sums-fault given declared ids fault (inr wrong) = inr (by_fault fault wrong)
  where
    by_fault : (fault : DeriveFault) → IsSumsFault given declared ids fault → IsParityFault given declared ids fault
    by_fault faults.Memory wrong = HoldsUpTo-none (IsCitedAs (SaysParity declared) given) (λ (id : ℕ). IsCitedWrong (SaysParity declared) given id faults.Memory) ids (λ id h. h) wrong
    by_fault faults.NoSuchVariable wrong = HoldsUpTo-none (IsCitedAs (SaysParity declared) given) (λ (id : ℕ). IsCitedWrong (SaysParity declared) given id faults.NoSuchVariable) ids (λ id h. h) wrong
    by_fault faults.NoSuchConstraint wrong = wrong
    by_fault faults.NotDerived wrong = inl wrong
