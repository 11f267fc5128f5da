-- What odd and even sums say together.
use Rattle.std.proofs.Common.{◌≡◌, ◌≢◌, ℕ, zero, suc, ◌+◌, ◌%◌, Bool, true, false, cond, eqb, List, [], ◌∷◌, ◌++◌, map, refl, sym, ap, subst, ◌∙◌, ◌⊎◌, inl, inr, ⊎_elim, arith, ℤ, pos, Option, Some, None, IfSome, IsSomeAnd}
use Rattle.std.specs.Option.{option_and_then}
use Rattle.std.specs.Ordering.{int_eq}
use Rattle.std.specs.List.{All, AllByRecursion, count_by, sum_by, cons_option}
use Rattle.std.proofs.lemmas.List.{map-append}
use Rattle.std.proofs.lemmas.List.Elements.{recursion_from_All}
use Rattle.std.proofs.lemmas.List.Sums.{sum_by-cons, sum_by-append}
use Rattle.std.proofs.lemmas.Bool.{cases_Bool, ne_eqb, eq-eqb}
use Rattle.std.proofs.lemmas.Bool.Decides.{Decides-int_eq}
use Rattle.fzn_domain.specs.IntSet.{IntSet}
use Rattle.fzn_domain.specs.Narrow.{IsWithin, value_of}
use Rattle.fzn_values.specs.declared.term.Term.{Term}
use Rattle.fzn_values.specs.declared.term.Term.TheVariants.{Constant, Variable}
use Rattle.fzn_meaning.specs.declared.relation.Relation.TheVariants as relation
use Rattle.fzn_meaning.specs.declared.constraint.Constraint.{Constraint}
use Rattle.fzn_meaning.specs.declared.constraint.Constraint.TheVariants as constraint
use Rattle.fzn_values.specs.Term.{term_value, values_of}
use Rattle.fzn_meaning.specs.Booleans.{IsBoolXor}
use Rattle.fzn_meaning.specs.Meaning.{Meets, IsBit, IsBoolean, booleans_of}
use Rattle.fzn_meaning.proofs.CutLemmas.{bits-choice}
use Rattle.fzn_cited.specs.Cited.{constraint_at, IsCitedAs}
use Rattle.fzn_derive.specs.Parity.{Parity, parity_of, SaysParity, parities, terms_together, odd_together, variable_numbers, is_one, ones_in, AreOddIn, variable_with, one_if_even, parity_inputs, IsParity}
use Rattle.fzn_cited.proofs.CitedLemmas.{IsCitedMet}
use Rattle.fzn_derive.proofs.OddLemmas.{odd_in-sum}

-- how many of the values are 1
abbrev pub trues : List ℤ → ℕ
trues xs = count_by (λ (x : ℤ). int_eq x (pos 1)) xs

-- 1 for a 1, else 0
abbrev pub bit_at : ℤ → ℕ
bit_at x = cond (int_eq x (pos 1)) 1 0

trues-cons : (x : ℤ) (xs : List ℤ) → trues (x ∷ xs) ≡ bit_at x + trues xs
trues-cons x xs = sum_by-cons bit_at x xs

-- ---- one sum

bit_cases : (x : ℤ) → ((x ≡ pos 1) × (bit_at x ≡ 1)) ⊎ ((x ≢ pos 1) × (bit_at x ≡ 0))
bit_cases x = ⊎_elim (λ e. inl ((Decides-int_eq x (pos 1)).0 e, ap (λ (b : Bool). cond b 1 0) e)) (λ e. inr ((λ is. let t = (Decides-int_eq x (pos 1)).1 is in absurd (cc)), ap (λ (b : Bool). cond b 1 0) e)) (cases_Bool (int_eq x (pos 1)))

-- of two bits that differ one is 1
odd-two : (a b : ℤ) → IsBit a → IsBit b → a ≢ b → (bit_at a + bit_at b) % 2 ≡ 1
odd-two a b (inl p) (inl q) differ = absurd (differ (p ∙ sym q))
odd-two a b (inl p) (inr q) differ = rw (p, q) refl
odd-two a b (inr p) (inl q) differ = rw (p, q) refl
odd-two a b (inr p) (inr q) differ = absurd (differ (p ∙ sym q))

even-two : (a b : ℤ) → a ≡ b → (bit_at a + bit_at b) % 2 ≡ 0
even-two a b same = let e : bit_at a ≡ bit_at b = ap bit_at same in omega arith

even-three : (a b r : ℤ) → IsBoolXor a b r → (bit_at a + bit_at b + bit_at r) % 2 ≡ 0
even-three a b r xor = by_cases (bit_cases a) (bit_cases b) (bit_cases r)
  where
    by_cases : ((a ≡ pos 1) × (bit_at a ≡ 1)) ⊎ ((a ≢ pos 1) × (bit_at a ≡ 0)) → ((b ≡ pos 1) × (bit_at b ≡ 1)) ⊎ ((b ≢ pos 1) × (bit_at b ≡ 0)) → ((r ≡ pos 1) × (bit_at r ≡ 1)) ⊎ ((r ≢ pos 1) × (bit_at r ≡ 0)) → (bit_at a + bit_at b + bit_at r) % 2 ≡ 0
    by_cases (inl p) (inl q) (inl s) = absurd (⊎_elim (λ one. one.1 q.0) (λ one. one.0 p.0) (xor.0 s.0))
    by_cases (inl p) (inl q) (inr s) = rw (p.1, q.1, s.1) refl
    by_cases (inl p) (inr q) (inl s) = rw (p.1, q.1, s.1) refl
    by_cases (inl p) (inr q) (inr s) = absurd (s.0 (xor.1 (inl (p.0, q.0))))
    by_cases (inr p) (inl q) (inl s) = rw (p.1, q.1, s.1) refl
    by_cases (inr p) (inl q) (inr s) = absurd (s.0 (xor.1 (inr (p.0, q.0))))
    by_cases (inr p) (inr q) (inl s) = absurd (⊎_elim (λ one. p.0 one.0) (λ one. q.0 one.1) (xor.0 s.0))
    by_cases (inr p) (inr q) (inr s) = rw (p.1, q.1, s.1) refl

-- the terms of the sum are 0 or 1, and it is odd or even as it says
IsSaid : List ℤ → Parity → Type 0
IsSaid values sum = trues (values_of values sum.terms) % 2 ≡ cond sum.odd 1 0

-- what a constraint says of a sum of bits is true of values that meet it
said : (values : List ℤ) (c : Constraint) → Meets c values → IfSome (parity_of c) (λ sum. AllByRecursion (λ (term : Term). IsBit (term_value values term)) sum.terms → IsSaid values sum)
unfolding Meets parity_of IsSaid
said values (constraint.ArrayBoolXor inputs) meets = λ bits. meets
said values (constraint.BoolNot left right) meets = λ bits. two values left right 1 (odd-two (term_value values left) (term_value values right) bits.0 bits.1.0 meets)
  where
    two : (values : List ℤ) (left right : Term) (r : ℕ) → (bit_at (term_value values left) + bit_at (term_value values right)) % 2 ≡ r → trues (values_of values (left ∷ right ∷ [])) % 2 ≡ r
    two values left right r e = let all = trues-cons (term_value values left) (term_value values right ∷ []) in let one = trues-cons (term_value values right) [] in omega arith
said values (constraint.BoolXor left right result) meets = λ bits. three
  where
    three : trues (values_of values (left ∷ right ∷ result ∷ [])) % 2 ≡ 0
    three =
        let even = even-three (term_value values left) (term_value values right) (term_value values result) meets in
        let all = trues-cons (term_value values left) (term_value values right ∷ term_value values result ∷ []) in
        let two = trues-cons (term_value values right) (term_value values result ∷ []) in
        let one = trues-cons (term_value values result) [] in
        omega arith
said values (constraint.Compare relation.Equal left right None) meets = λ bits. two
  where
    two : trues (values_of values (left ∷ right ∷ [])) % 2 ≡ 0
    two =
        let even = even-two (term_value values left) (term_value values right) meets in
        let all = trues-cons (term_value values left) (term_value values right ∷ []) in
        let one = trues-cons (term_value values right) [] in
        omega arith
said values (constraint.BoolToInt boolean integer) meets = λ bits. two
  where
    two : trues (values_of values (boolean ∷ integer ∷ [])) % 2 ≡ 0
    two =
        let even = even-two (term_value values boolean) (term_value values integer) meets in
        let all = trues-cons (term_value values boolean) (term_value values integer ∷ []) in
        let one = trues-cons (term_value values integer) [] in
        omega arith
said values _ meets = tt

-- ---- several sums

-- what each of them says they say together
said-together : (values : List ℤ) (sums : List Parity) → AllByRecursion (IsSaid values) sums → (trues (values_of values (terms_together sums)) + odd_together sums) % 2 ≡ 0
unfolding IsSaid
said-together values [] all = refl
said-together values (sum ∷ sums) all =
    let rest = said-together values sums all.1 in
    let here = all.0 in
    let odd = sum_by-cons (λ (parity : Parity). cond parity.odd 1 0) sum sums in
    let parts = sum_by-append bit_at (values_of values sum.terms) (values_of values (terms_together sums)) in
    let whole : trues (values_of values (sum.terms ++ terms_together sums)) ≡ trues (values_of values sum.terms ++ values_of values (terms_together sums)) = ap trues (map-append (term_value values) sum.terms (terms_together sums)) in
    omega arith

-- the values of terms that are 1: those of the constants and those of the variables
trues-parts : (values : List ℤ) (terms : List Term) → trues (values_of values terms) ≡ ones_in terms + sum_by (λ (n : ℕ). bit_at (term_value values (variable_with n))) (variable_numbers terms)
trues-parts values [] = refl
trues-parts values (Constant k ∷ terms) =
    let rest = trues-parts values terms in
    let here = trues-cons k (values_of values terms) in
    let one = sum_by-cons (λ (term : Term). cond (is_one term) 1 0) (Constant k) terms in
    omega arith
trues-parts values (Variable var ∷ terms) =
    let rest = trues-parts values terms in
    let here = trues-cons (value_of values var) (values_of values terms) in
    let one = sum_by-cons (λ (term : Term). cond (is_one term) 1 0) (Variable var) terms in
    let number = sum_by-cons (λ (n : ℕ). bit_at (term_value values (variable_with n))) var.0 (variable_numbers terms) in
    omega arith

trues-variable_with : (values : List ℤ) (numbers : List ℕ) → trues (values_of values (map variable_with numbers)) ≡ sum_by (λ (n : ℕ). bit_at (term_value values (variable_with n))) numbers
trues-variable_with values [] = refl
trues-variable_with values (n ∷ numbers) =
    let rest = trues-variable_with values numbers in
    let here = trues-cons (term_value values (variable_with n)) (values_of values (map variable_with numbers)) in
    let number = sum_by-cons (λ (m : ℕ). bit_at (term_value values (variable_with m))) n numbers in
    omega arith

trues-last : (values : List ℤ) (n : ℕ) → (trues (values_of values (one_if_even n)) + n) % 2 ≡ 1
trues-last values n = by_rest (n % 2) refl
  where
    by_rest : (r : ℕ) → n % 2 ≡ r → (trues (values_of values (cond (eqb (n % 2) 0) (Constant (pos 1) ∷ []) [])) + n) % 2 ≡ 1
    by_rest zero e =
        let t : eqb (n % 2) 0 ≡ true = eq-eqb (n % 2) 0 e in
        let one : trues (values_of values (cond (eqb (n % 2) 0) (Constant (pos 1) ∷ []) [])) ≡ 1 = ap (λ (b : Bool). trues (values_of values (cond b (Constant (pos 1) ∷ []) []))) t in
        omega arith
    by_rest (suc zero) e =
        let t : eqb (n % 2) 0 ≡ false = ne_eqb (n % 2) 0 (λ z. absurd (omega arith)) in
        let none : trues (values_of values (cond (eqb (n % 2) 0) (Constant (pos 1) ∷ []) [])) ≡ 0 = ap (λ (b : Bool). trues (values_of values (cond b (Constant (pos 1) ∷ []) []))) t in
        omega arith
    by_rest (suc (suc r)) e = absurd (omega arith)

-- the inputs are odd where the sums say what they say
inputs-odd : (values : List ℤ) (sums : List Parity) (odd : List ℕ) → AllByRecursion (IsSaid values) sums → AreOddIn (variable_numbers (terms_together sums)) odd → trues (values_of values (parity_inputs sums odd)) % 2 ≡ 1
inputs-odd values sums odd all are_odd =
    let f : ℕ → ℕ = λ n. bit_at (term_value values (variable_with n)) in
    let last : ℕ = odd_together sums + ones_in (terms_together sums) in
    let together = said-together values sums all in
    let split = trues-parts values (terms_together sums) in
    let even = odd_in-sum (λ (n : ℕ). bit_at (term_value values (variable_with n))) (variable_numbers (terms_together sums)) odd are_odd in
    let variables = trues-variable_with values odd in
    let end = trues-last values (odd_together sums + ones_in (terms_together sums)) in
    let whole : trues (values_of values (map variable_with odd ++ one_if_even (odd_together sums + ones_in (terms_together sums)))) ≡ trues (values_of values (map variable_with odd) ++ values_of values (one_if_even (odd_together sums + ones_in (terms_together sums)))) = ap trues (map-append (term_value values) (map variable_with odd) (one_if_even (odd_together sums + ones_in (terms_together sums)))) in
    let parts = sum_by-append bit_at (values_of values (map variable_with odd)) (values_of values (one_if_even (odd_together sums + ones_in (terms_together sums)))) in
    omega arith

-- ---- the laws

bits : (declared : List IntSet) (values : List ℤ) (terms : List Term) → IsWithin declared values → All (IsBoolean declared) terms → AllByRecursion (λ (term : Term). IsBit (term_value values term)) terms
unfolding booleans_of
bits declared values terms within booleans = recursion_from_All (λ (term : Term). IsBit (term_value values term)) terms (bits-choice declared values (constraint.ArrayBoolXor terms) within booleans)

all-said : (given : List Constraint) (declared : List IntSet) (ids : List ℕ) (values : List ℤ) → IsWithin declared values → AllByRecursion (IsCitedAs (SaysParity declared) given) ids → AllByRecursion (IsCitedMet given values) ids → AllByRecursion (IsSaid values) (parities given ids)
all-said given declared [] values within says met = tt
all-said given declared (id ∷ ids) values within says met = by_constraint (constraint_at given id) says.0 met.0 (all-said given declared ids values within says.1 met.1)
  where
    by_sum : (found : Option Parity) → IsSomeAnd found (λ sum. All (IsBoolean declared) sum.terms) → IfSome found (λ sum. AllByRecursion (λ (term : Term). IsBit (term_value values term)) sum.terms → IsSaid values sum) → AllByRecursion (IsSaid values) (parities given ids) → AllByRecursion (IsSaid values) (cons_option found (parities given ids))
    by_sum None booleans says rest = absurd booleans
    by_sum (Some sum) booleans says rest = (says (bits declared values sum.terms within booleans), rest)

    by_constraint : (found : Option Constraint) → IsSomeAnd found (SaysParity declared) → IfSome found (λ c. Meets c values) → AllByRecursion (IsSaid values) (parities given ids) → AllByRecursion (IsSaid values) (cons_option (option_and_then parity_of found) (parities given ids))
    by_constraint None says met rest = absurd says
    by_constraint (Some c) says met rest = by_sum (parity_of c) says (said values c met) rest

-- values of the declared sets that meet every constraint that is cited meet the derived one
pub parity-met : (given : List Constraint) (declared : List IntSet) (ids : List ℕ) (c : Constraint) (values : List ℤ) → IsWithin declared values → IsParity given declared ids c → All (IsCitedMet given values) ids → Meets c values
unfolding Meets
parity-met given declared ids (constraint.ArrayBoolXor inputs) values within parity met =
    let says = recursion_from_All (IsCitedAs (SaysParity declared) given) ids parity.0 in
    let met_each = recursion_from_All (IsCitedMet given values) ids met in
    let odd = inputs-odd values (parities given ids) parity.1.0 (all-said given declared ids values within says met_each) parity.1.1 in
    subst (λ (terms : List Term). trues (values_of values terms) % 2 ≡ 1) (sym parity.1.3) odd
parity-met given declared ids _ values within parity met = absurd parity
