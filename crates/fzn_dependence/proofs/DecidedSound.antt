-- What a constraint decides: where it is met, the one variable has the value that is decided by that of the other.
use Rattle.std.proofs.Common.{◌≡◌, ◌≢◌, ◌⊎◌, ◌↔◌, ℕ, zero, suc, ◌-◌, ◌*◌, ◌<◌, ◌≤◌, Bool, true, false, cond, not, ◌&&◌, ◌||◌, nat_eq, List, [], ◌∷◌, length, get_or, slice_get, inl, inr, refl, sym, ap, ◌∙◌, subst, arith, ℤ, pos, negsuc, ◌+ℤ◌, ◌-ℤ◌, ◌*ℤ◌, ◌≤ℤ◌, int_le, int_div, int_rem, unsigned_abs, Option, Some, None, IfSome, is_none, option_and_then, All}
use Rattle.std.specs.List.{list_all}
use Rattle.std.specs.Option.{option_map_or}
use Rattle.std.specs.Ordering.{int_eq}
use Rattle.std.proofs.lemmas.Int.{ints, quot-rem, rem_below, unsigned_abs-mul}
use Rattle.std.proofs.lemmas.Bool.{eqb-true, and_parts}
use Rattle.std.proofs.lemmas.Bool.Decides.{nat_tests, Decides-int_eq}
use Rattle.std.proofs.lemmas.List.Elements.{All-head, All-tail}
use Rattle.fzn_domain.specs.declared.literal.VarId.{VarId}
use Rattle.fzn_domain.specs.Limits.{IsInLimits}
use Rattle.fzn_domain.specs.Narrow.{IsVariable, value_of}
use Rattle.fzn_values.specs.declared.term.Term.{Term}
use Rattle.fzn_values.specs.declared.term.Term.TheVariants.{Constant, Variable}
use Rattle.fzn_values.specs.declared.term.Place.{Place}
use Rattle.fzn_meaning.specs.declared.relation.Comparison.{Comparison}
use Rattle.fzn_meaning.specs.declared.relation.Comparison.TheVariants.{AtMost, Equal, NotEqual}
use Rattle.fzn_meaning.specs.declared.arithmetic.Operation.TheVariants.{Plus, Times, Quotient, Remainder}
use Rattle.fzn_meaning.specs.declared.constraint.Constraint.{Constraint}
use Rattle.fzn_meaning.specs.declared.constraint.Constraint.TheVariants as constraint
use Rattle.fzn_values.specs.Term.{term_value, values_of, product_at, sum_at, number_in, numbers_in, IsTerm, IsPlace}
use Rattle.fzn_meaning.specs.Comparisons.{IsSwitched}
use Rattle.fzn_meaning.specs.Linear.{IsLinear}
use Rattle.fzn_meaning.specs.Elements.{IsElement}
use Rattle.fzn_meaning.specs.Meaning.{Meets, IsWellFormedConstraint, IsBit, HasBooleanValues, booleans_of, switch_value}
use Rattle.fzn_builtin_rules.specs.Form.{Form, Fits, FormHolds, form_of}
use Rattle.fzn_builtin_rules.proofs.CallerLemmas.{form_fits, total_by-cons}
use Rattle.fzn_builtin_rules.proofs.FormLemmas.{form_holds}
use Rattle.fzn_dependence.specs.Decided.{is_place_of, term_where, sum_where, coefficient_besides, another_in, another_of, AreBounded, sum_compares, bit, is_equal, quotient, is_decided, form_decider, form_value, is_constant, entry_number, decider_in, decided_in}
use Rattle.fzn_dependence.proofs.IntLemmas.{plus_times, times_plus}

-- ---- options and tests

pub no_some : {A : Type 0} (a : A) → ◌≡◌ {A = Option A} None (Some a) → ⊥
no_some a e = cc

one_some : {A : Type 0} (a b : A) → ◌≡◌ {A = Option A} (Some a) (Some b) → a ≡ b
one_some a b e = cc

none_of : {A : Type 0} (o : Option A) → is_none o ≡ true → o ≡ None
none_of None h = refl
none_of (Some a) h = absurd (cc)

-- what is found first is found in the one or in the other
none_both : {A : Type 0} (first rest : Option A) → option_map_or (λ (a : A). Some a) first rest ≡ None → (first ≡ None) × (rest ≡ None)
none_both None rest h = (refl, h)
none_both (Some a) rest h = absurd (cc)

some_either : {A : Type 0} (first rest : Option A) (a : A) → option_map_or (λ (b : A). Some b) first rest ≡ Some a → (first ≡ Some a) ⊎ (rest ≡ Some a)
some_either None rest a h = inr h
some_either (Some b) rest a h = inl h

chosen : {A : Type 0} (test : Bool) (a b : A) → ◌≡◌ {A = Option A} (cond test (Some a) None) (Some b) → (test ≡ true) × (a ≡ b)
chosen true a b h = (refl, one_some a b h)
chosen false a b h = absurd (no_some b h)

then_some : {A B : Type 0} (f : A → Option B) (o : Option A) (b : B) → option_and_then f o ≡ Some b → (a : A) × (o ≡ Some a) × (f a ≡ Some b)
then_some f None b h = absurd (no_some b h)
then_some f (Some a) b h = (a, refl, h)

if_some : {A : Type 0} (P : A → Type 0) (o : Option A) (a : A) → o ≡ Some a → IfSome o P → P a
if_some {A = A} P o a is h = subst (λ (x : Option A). IfSome x P) is h

-- ---- quotients

nothing_left : (a b d : ℕ) → a ≡ b * d → a < d → b ≡ 0
nothing_left a zero d e h = refl
nothing_left a (suc b) d e h = absurd (omega arith)

no_magnitude : (x : ℤ) → unsigned_abs x ≡ 0 → x ≡ pos 0
no_magnitude (pos zero) h = refl
no_magnitude (pos (suc n)) h = absurd (omega arith)
no_magnitude (negsuc n) h = absurd (omega arith)

some_magnitude : (d : ℤ) → d ≢ pos 0 → 0 < unsigned_abs d
some_magnitude (pos zero) h = absurd (h refl)
some_magnitude (pos (suc n)) h = omega arith
some_magnitude (negsuc n) h = omega arith

-- a product has its other factor as quotient
whole_quotient : (n d k : ℤ) → d ≢ pos 0 → k *ℤ d ≡ n → (int_rem n d ≡ pos 0) × (int_div n d ≡ k)
whole_quotient n d k some is =
    let q = int_div n d in
    let r = int_rem n d in
    let split = quot-rem n d in
    let apart = plus_times (k -ℤ q) q d in
    let back : (k -ℤ q) +ℤ q ≡ k = omega (arith, ints) in
    let all : k *ℤ d ≡ (k -ℤ q) *ℤ d +ℤ q *ℤ d = ap (λ (x : ℤ). x *ℤ d) (sym back) ∙ apart in
    let rest : r ≡ (k -ℤ q) *ℤ d = omega (arith, ints) in
    let sizes : unsigned_abs r ≡ unsigned_abs (k -ℤ q) * unsigned_abs d = ap (λ (x : ℤ). unsigned_abs x) rest ∙ unsigned_abs-mul (k -ℤ q) d in
    let same = no_magnitude (k -ℤ q) (nothing_left (unsigned_abs r) (unsigned_abs (k -ℤ q)) (unsigned_abs d) sizes (rem_below n d (some_magnitude d some))) in
    (rest ∙ ap (λ (x : ℤ). x *ℤ d) same ∙ zero_by d, omega (arith, ints))
  where
    zero_by : (d : ℤ) → pos 0 *ℤ d ≡ pos 0
    zero_by d = omega (arith, ints)

not_zero : (d : ℤ) → not (int_eq d (pos 0)) ≡ true → d ≢ pos 0
not_zero d h is = off (int_eq d (pos 0)) h ((Decides-int_eq d (pos 0)).1 is)
  where
    off : (b : Bool) → not b ≡ true → b ≡ true → ⊥
    off true h is = cc
    off false h is = cc

quotient-is : (n d k : ℤ) → not (int_eq d (pos 0)) ≡ true → k *ℤ d ≡ n → quotient n d ≡ Some k
quotient-is n d k some is =
    let whole = whole_quotient n d k (not_zero d some) is in
    let exact : int_eq (int_rem n d) (pos 0) ≡ true = (Decides-int_eq (int_rem n d) (pos 0)).1 whole.0 in
    ap (λ (b : Bool). cond (b && int_eq (int_rem n d) (pos 0)) (Some (int_div n d)) None) some ∙ ap (λ (b : Bool). cond b (Some (int_div n d)) None) exact ∙ ap (λ (x : ℤ). Some x) whole.1

-- ---- sums

-- another value of all other variables
more-of : (var : VarId) (value other : ℤ) (places : List Place) → sum_where var value other places ≡ sum_where var value (pos 0) places +ℤ other *ℤ coefficient_besides var places
more-of var value other [] = omega (arith, ints)
more-of var value other (place ∷ places) =
    let rest = more-of var value other places in
    let c = place.coefficient in
    let zeros = sum_where var (pos 0) (pos 0) places in
    let ones = sum_where var (pos 0) (pos 1) places in
    let zero = c *ℤ term_where var (pos 0) (pos 0) place.term in
    let one = c *ℤ term_where var (pos 0) (pos 1) place.term in
    let here = one-term c place.term in
    let split = times_plus other (one -ℤ zero) (ones -ℤ zeros) in
    let gathered : (one +ℤ ones) -ℤ (zero +ℤ zeros) ≡ (one -ℤ zero) +ℤ (ones -ℤ zeros) = omega (arith, ints) in
    let all : other *ℤ ((one +ℤ ones) -ℤ (zero +ℤ zeros)) ≡ other *ℤ (one -ℤ zero) +ℤ other *ℤ (ones -ℤ zeros) = ap (λ (x : ℤ). other *ℤ x) gathered ∙ split in
    omega (arith, ints)
  where
    none : (a b : ℤ) → a ≡ a +ℤ other *ℤ (b -ℤ b)
    none a b = let e : b -ℤ b ≡ pos 0 = omega (arith, ints) in rw e (omega (arith, ints))

    swap : (c k : ℤ) → c *ℤ k ≡ c *ℤ pos 0 +ℤ k *ℤ (c *ℤ pos 1 -ℤ c *ℤ pos 0)
    swap c k = let e : c *ℤ pos 1 -ℤ c *ℤ pos 0 ≡ c = omega (arith, ints) in rw e (omega (arith, ints))

    one-term : (c : ℤ) (term : Term) → c *ℤ term_where var value other term ≡ c *ℤ term_where var value (pos 0) term +ℤ other *ℤ (c *ℤ term_where var (pos 0) (pos 1) term -ℤ c *ℤ term_where var (pos 0) (pos 0) term)
    one-term c (Constant k) = none (c *ℤ k) (c *ℤ k)
    one-term c (Variable v) = tested (nat_eq v.0 var.0)
      where
        tested : (test : Bool) → c *ℤ cond test value other ≡ c *ℤ cond test value (pos 0) +ℤ other *ℤ (c *ℤ cond test (pos 0) (pos 1) -ℤ c *ℤ cond test (pos 0) (pos 0))
        tested true = none (c *ℤ value) (c *ℤ pos 0)
        tested false = swap c other

module _ (values : List ℤ) where
  same_value : (v w : VarId) → nat_eq v.0 w.0 ≡ true → value_of values v ≡ value_of values w
  same_value v w is = ap (λ (n : ℕ). get_or values (n - 1) (pos 0)) (eqb-true v.0 w.0 is)

  -- where there is no other variable than these two, of which the second has that value or is the first
  abbrev IsOther : VarId → VarId → ℤ → Type 0
  IsOther by two other = (nat_eq two.0 by.0 ≡ true) ⊎ (value_of values two ≡ other)

  term-with : (by two : VarId) (other : ℤ) (term : Term) → IsOther by two other → another_in by two term ≡ None → term_value values term ≡ term_where by (value_of values by) other term
  term-with by two other (Constant k) is none = refl
  term-with by two other (Variable v) is none = tested (nat_eq v.0 by.0) (nat_eq v.0 two.0) refl refl none
    where
      other_way : IsOther by two other → nat_eq v.0 by.0 ≡ false → nat_eq v.0 two.0 ≡ true → value_of values v ≡ other
      other_way (inl same) differs here = absurd (let a = eqb-true v.0 two.0 here in let b = eqb-true two.0 by.0 same in apart (a ∙ b) differs)
        where
          apart : v.0 ≡ by.0 → nat_eq v.0 by.0 ≡ false → ⊥
          apart e h = grind (arith, nat_tests)
      other_way (inr there) differs here = same_value v two here ∙ there

      tested : (first second : Bool) → nat_eq v.0 by.0 ≡ first → nat_eq v.0 two.0 ≡ second → ◌≡◌ {A = Option VarId} (cond (first || second) None (Some v)) None → value_of values v ≡ cond first (value_of values by) other
      tested true second first_is second_is none = same_value v by first_is
      tested false true first_is second_is none = other_way is first_is second_is
      tested false false first_is second_is none = absurd (cc)

  sum-is : (by two : VarId) (other : ℤ) (places : List Place) → IsOther by two other → another_of by two places ≡ None → sum_at values places ≡ sum_where by (value_of values by) other places
  sum-is by two other [] is none = refl
  sum-is by two other (place ∷ places) is none =
      let parts = none_both (another_in by two place.term) (another_of by two places) none in
      let here = ap (λ (x : ℤ). place.coefficient *ℤ x) (term-with by two other place.term is parts.0) in
      let rest = sum-is by two other places is parts.1 in
      let all = total_by-cons (product_at values) place places in
      omega (arith, ints)

  -- ---- forms

  sum_compares-true : (comparison : Comparison) (sum bound : ℤ) → sum_compares comparison sum bound ≡ true → IsLinear comparison sum bound
  sum_compares-true AtMost sum bound h = le_is sum bound h
    where
      le_is : (a b : ℤ) → int_le a b ≡ true → a ≤ℤ b
      le_is a b h = grind (arith, ints)
  sum_compares-true Equal sum bound h = (Decides-int_eq sum bound).0 h
  sum_compares-true NotEqual sum bound h = λ is. off (int_eq sum bound) h ((Decides-int_eq sum bound).1 is)
    where
      off : (b : Bool) → not b ≡ true → b ≡ true → ⊥
      off true h is = cc
      off false h is = cc

  sum_compares-false : (comparison : Comparison) (sum bound : ℤ) → sum_compares comparison sum bound ≡ false → IsLinear comparison sum bound → ⊥
  sum_compares-false AtMost sum bound h holds = above sum bound h holds
    where
      above : (a b : ℤ) → int_le a b ≡ false → a ≤ℤ b → ⊥
      above a b h is = grind (arith, ints)
  sum_compares-false Equal sum bound h holds = off (int_eq sum bound) h ((Decides-int_eq sum bound).1 holds)
    where
      off : (b : Bool) → b ≡ false → b ≡ true → ⊥
      off b h is = cc
  sum_compares-false NotEqual sum bound h holds = holds ((Decides-int_eq sum bound).0 (on (int_eq sum bound) h))
    where
      on : (b : Bool) → not b ≡ false → b ≡ true
      on true h = refl
      on false h = absurd (cc)

  bit-is : (test : Bool) (v : ℤ) (Holds : Type 0) → (test ≡ true → Holds) → (test ≡ false → Holds → ⊥) → IsBit v → (v ≡ pos 1) ↔ Holds → bit test ≡ v
  bit-is true v Holds if_true if_false is switched = sym (switched.1 (if_true refl))
  bit-is false v Holds if_true if_false (inl nought) switched = sym nought
  bit-is false v Holds if_true if_false (inr one) switched = absurd (if_false refl (switched.0 one))

  module _ (var by : VarId) (places : List Place) (comparison : Comparison) (bound : ℤ) where
    abbrev Sum : ℤ
    Sum = sum_where by (value_of values by) (pos 0) places

    equation-value : (comparison : Comparison) → IsLinear comparison (sum_at values places) bound → (is_equal comparison && is_none (another_of by var places) && not (int_eq (coefficient_besides by places) (pos 0))) ≡ true
        → quotient (bound -ℤ Sum) (coefficient_besides by places) ≡ Some (value_of values var)
    equation-value AtMost holds test = absurd (cc)
    equation-value NotEqual holds test = absurd (cc)
    equation-value Equal holds test =
        let parts = and_parts (is_none (another_of by var places)) (not (int_eq (coefficient_besides by places) (pos 0))) test in
        let sum = sum-is by var (value_of values var) places (inr refl) (none_of (another_of by var places) parts.0) in
        let more = more-of by (value_of values by) (value_of values var) places in
        quotient-is (bound -ℤ Sum) (coefficient_besides by places) (value_of values var) parts.1 (omega (arith, ints))

    switch-value : (switch : Term) → IsSwitched (Some (term_value values switch)) (IsLinear comparison (sum_at values places) bound) → IsBit (term_value values switch) → (is_place_of var switch && is_none (another_of by by places)) ≡ true
        → bit (sum_compares comparison Sum bound) ≡ value_of values var
    switch-value (Constant k) holds is test = absurd (cc)
    switch-value (Variable v) holds is test =
        let parts = and_parts (nat_eq v.0 var.0) (is_none (another_of by by places)) test in
        let sum = sum-is by by (pos 0) places (inl (itself by.0)) (none_of (another_of by by places) parts.1) in
        let here : IsSwitched (Some (value_of values v)) (IsLinear comparison Sum bound) = subst (λ (x : ℤ). IsSwitched (Some (value_of values v)) (IsLinear comparison x bound)) sum holds in
        bit-is (sum_compares comparison Sum bound) (value_of values v) (IsLinear comparison Sum bound) (sum_compares-true comparison Sum bound) (sum_compares-false comparison Sum bound) is here ∙ same_value v var parts.0
      where
        itself : (n : ℕ) → nat_eq n n ≡ true
        itself n = grind (arith, nat_tests)

    value-with : (switch : Option Term) → IsSwitched (switch_value values switch) (IsLinear comparison (sum_at values places) bound) → IfSome switch (λ (s : Term). IsBit (term_value values s))
        → option_map_or (λ switch. is_place_of var switch && is_none (another_of by by places)) switch (is_equal comparison && is_none (another_of by var places) && not (int_eq (coefficient_besides by places) (pos 0))) ≡ true
        → option_map_or (λ (s : Term). Some (bit (sum_compares comparison Sum bound))) switch (quotient (bound -ℤ Sum) (coefficient_besides by places)) ≡ Some (value_of values var)
    value-with None holds bits test = equation-value comparison holds test
    value-with (Some switch) holds bits test = ap (λ (x : ℤ). Some x) (switch-value switch holds bits test)

  form-value : (var by : VarId) (found : Form) → FormHolds found values → IfSome found.switch (λ (s : Term). IsBit (term_value values s)) → form_decider var found ≡ Some by → form_value by (value_of values by) found ≡ Some (value_of values var)
  form-value var by found holds bits is =
      let other = then_some (λ (x : VarId). cond (is_decided var x found) (Some x) None) (another_of var var found.places) by is in
      let test = chosen (is_decided var other.0 found) other.0 by other.2 in
      value-with var by found.places found.comparison found.bound found.switch holds bits (subst (λ (x : VarId). is_decided var x found ≡ true) test.1 test.0)

  -- ---- constraints

  -- the switch of a form is Boolean
  switch-bit : (c : Constraint) → HasBooleanValues values c → IfSome (form_of c) (λ (found : Form). IfSome found.switch (λ (s : Term). IsBit (term_value values s)))
  unfolding form_of booleans_of
  switch-bit (constraint.Compare relation left right None) bits = tt
  switch-bit (constraint.Compare relation left right (Some switch)) bits = bits 0 switch (omega arith)
  switch-bit (constraint.Linear sum comparison bound None) bits = tt
  switch-bit (constraint.Linear sum comparison bound (Some switch)) bits = bits 0 switch (omega arith)
  switch-bit (constraint.Gated gate inputs result) bits = bits 0 result (omega arith)
  switch-bit (constraint.Arithmetic Plus left right result) bits = tt
  switch-bit (constraint.Arithmetic Times left right result) bits = tt
  switch-bit (constraint.Arithmetic Quotient left right result) bits = tt
  switch-bit (constraint.Arithmetic Remainder left right result) bits = tt
  switch-bit _ bits = tt

  form-decided : (var by : VarId) (c : Constraint) → HasBooleanValues values c → Meets c values → option_and_then (form_decider var) (form_of c) ≡ Some by → option_and_then (form_value by (value_of values by)) (form_of c) ≡ Some (value_of values var)
  form-decided var by c bits met is =
      let found = then_some (form_decider var) (form_of c) by is in
      let holds = if_some (λ (f : Form). FormHolds f values) (form_of c) found.0 found.1 (form_holds c values bits met) in
      let switch = if_some (λ (f : Form). IfSome f.switch (λ (s : Term). IsBit (term_value values s))) (form_of c) found.0 found.1 (switch-bit c bits) in
      ap (λ (o : Option Form). option_and_then (form_value by (value_of values by)) o) found.1 ∙ form-value var by found.0 holds switch found.2

  constants : (entries : List Term) → list_all is_constant entries ≡ true → values_of values entries ≡ numbers_in entries
  constants [] all = refl
  constants (Constant k ∷ entries) all = ap (λ (xs : List ℤ). k ∷ xs) (constants entries all)
  constants (Variable var ∷ entries) all = absurd (cc)

  get_inside : (xs : List ℤ) (k : ℕ) (x : ℤ) → k < length xs → get_or xs k (pos 0) ≡ x → slice_get xs k ≡ Some x
  get_inside [] k x inside is = absurd (omega arith)
  get_inside (y ∷ xs) zero x inside is = ap (λ (z : ℤ). Some z) is
  get_inside (y ∷ xs) (suc k) x inside is = get_inside xs k x (omega arith) is

  entry-decided : (numbers : List ℤ) (index value : ℤ) → IsElement index numbers value → entry_number numbers (index -ℤ pos 1) ≡ Some value
  entry-decided numbers (pos zero) value met = absurd (let h = met.0.0 in omega (arith, ints))
  entry-decided numbers (pos (suc k)) value met =
      let at : pos (suc k) -ℤ pos 1 ≡ pos k = omega (arith, ints) in
      let inside : k < length numbers = let h = met.0.1 in omega (arith, ints) in
      let less : k ≡ suc k - 1 = omega arith in
      ap (entry_number numbers) at ∙ get_inside numbers k value inside (ap (λ (n : ℕ). get_or numbers n (pos 0)) less ∙ met.1)
  entry-decided numbers (negsuc k) value met = absurd (let h = met.0.0 in omega (arith, ints))

  element-decided : (var by index value : VarId) (entries : List Term) → IsElement (value_of values index) (values_of values entries) (value_of values value) → cond (nat_eq value.0 var.0 && list_all is_constant entries) (Some index) None ≡ Some by
      → entry_number (numbers_in entries) (value_of values by -ℤ pos 1) ≡ Some (value_of values var)
  element-decided var by index value entries met is =
      let test = chosen (nat_eq value.0 var.0 && list_all is_constant entries) index by is in
      let parts = and_parts (nat_eq value.0 var.0) (list_all is_constant entries) test.0 in
      ap (λ (x : VarId). entry_number (numbers_in entries) (value_of values x -ℤ pos 1)) (sym test.1)
      ∙ entry-decided (numbers_in entries) (value_of values index) (value_of values value) (subst (λ (xs : List ℤ). IsElement (value_of values index) xs (value_of values value)) (constants entries parts.1) met)
      ∙ ap (λ (x : ℤ). Some x) (same_value value var parts.0)

  pub decided-value : (var by : VarId) (c : Constraint) → HasBooleanValues values c → Meets c values → decider_in var c ≡ Some by → decided_in by (value_of values by) c ≡ Some (value_of values var)
  unfolding Meets form_of
  decided-value var by (constraint.Element (Variable index) entries (Variable value)) bits met is = element-decided var by index value entries met is
  decided-value var by (constraint.Element (Variable index) entries (Constant k)) bits met is = absurd (no_some by is)
  decided-value var by (constraint.Element (Constant k) entries value) bits met is = absurd (no_some by is)
  decided-value var by c bits met is = form-decided var by c bits met is

-- ---- variables

module _ (count : ℕ) where
  another-variable : (one two : VarId) (term : Term) (v : VarId) → IsTerm count term → another_in one two term ≡ Some v → IsVariable count v
  another-variable one two (Constant k) v fits is = absurd (no_some v is)
  another-variable one two (Variable w) v fits is = tested (nat_eq w.0 one.0 || nat_eq w.0 two.0) is
    where
      tested : (test : Bool) → cond test None (Some w) ≡ Some v → IsVariable count v
      tested true h = absurd (no_some v h)
      tested false h = subst (IsVariable count) (one_some w v h) fits

  another_of-variable : (one two : VarId) (places : List Place) (v : VarId) → All (IsPlace count) places → another_of one two places ≡ Some v → IsVariable count v
  another_of-variable one two [] v fit is = absurd (no_some v is)
  another_of-variable one two (place ∷ places) v fit is = elim (some_either (another_in one two place.term) (another_of one two places) v is) [
    | inl here ↦ another-variable one two place.term v (All-head (IsPlace count) place places fit).0 here
    | inr later ↦ another_of-variable one two places v (All-tail (IsPlace count) place places fit) later
  ]

  -- where nothing but the one variable counts, all others together are multiplied with 0
  counted : (by var : VarId) (places : List Place) → All (IsPlace count) places → another_of by var places ≡ None → IsVariable count var ⊎ (coefficient_besides by places ≡ pos 0)
  counted by var [] fit none = inr (omega (arith, ints))
  counted by var (place ∷ places) fit none =
      let parts = none_both (another_in by var place.term) (another_of by var places) none in
      either (term-counted place.coefficient place.term (All-head (IsPlace count) place places fit).0 parts.0) (counted by var places (All-tail (IsPlace count) place places fit) parts.1)
    where
      either : IsVariable count var ⊎ (place.coefficient *ℤ term_where by (pos 0) (pos 1) place.term ≡ place.coefficient *ℤ term_where by (pos 0) (pos 0) place.term) → IsVariable count var ⊎ (coefficient_besides by places ≡ pos 0) → IsVariable count var ⊎ (coefficient_besides by (place ∷ places) ≡ pos 0)
      either (inl here) rest = inl here
      either (inr same) (inl there) = inl there
      either (inr same) (inr rest) = inr (omega (arith, ints))

      term-counted : (c : ℤ) (term : Term) → IsTerm count term → another_in by var term ≡ None → IsVariable count var ⊎ (c *ℤ term_where by (pos 0) (pos 1) term ≡ c *ℤ term_where by (pos 0) (pos 0) term)
      term-counted c (Constant k) fits none = inr refl
      term-counted c (Variable v) fits none = tested (nat_eq v.0 by.0) (nat_eq v.0 var.0) refl none
        where
          tested : (first second : Bool) → nat_eq v.0 var.0 ≡ second → ◌≡◌ {A = Option VarId} (cond (first || second) None (Some v)) None → IsVariable count var ⊎ (c *ℤ cond first (pos 0) (pos 1) ≡ c *ℤ cond first (pos 0) (pos 0))
          tested true second second_is none = inr refl
          tested false true second_is none = inl (let e = eqb-true v.0 var.0 second_is in (subst (λ (n : ℕ). 1 ≤ n) e fits.0, subst (λ (n : ℕ). n ≤ count) e fits.1))
          tested false false second_is none = absurd (cc)

  form-variables : (var by : VarId) (found : Form) → Fits count found → form_decider var found ≡ Some by → IsVariable count by × IsVariable count var
  form-variables var by found fits is =
      let other = then_some (λ (x : VarId). cond (is_decided var x found) (Some x) None) (another_of var var found.places) by is in
      let test = chosen (is_decided var other.0 found) other.0 by other.2 in
      (subst (IsVariable count) test.1 (another_of-variable var var found.places other.0 fits.places_fit other.1), by_switch found.switch fits.switch_fits (subst (λ (x : VarId). is_decided var x found ≡ true) test.1 test.0))
    where
      of_switch : (switch : Term) → IsTerm count switch → (is_place_of var switch && is_none (another_of by by found.places)) ≡ true → IsVariable count var
      of_switch (Constant k) formed h = absurd (cc)
      of_switch (Variable v) formed h =
          let e = eqb-true v.0 var.0 (and_parts (nat_eq v.0 var.0) (is_none (another_of by by found.places)) h).0 in
          (subst (λ (n : ℕ). 1 ≤ n) e formed.0, subst (λ (n : ℕ). n ≤ count) e formed.1)

      either : IsVariable count var ⊎ (coefficient_besides by found.places ≡ pos 0) → coefficient_besides by found.places ≢ pos 0 → IsVariable count var
      either (inl here) some = here
      either (inr none) some = absurd (some none)

      by_switch : (switch : Option Term) → IfSome switch (IsTerm count) → option_map_or (λ switch. is_place_of var switch && is_none (another_of by by found.places)) switch (is_equal found.comparison && is_none (another_of by var found.places) && not (int_eq (coefficient_besides by found.places) (pos 0))) ≡ true → IsVariable count var
      by_switch (Some switch) formed h = of_switch switch formed h
      by_switch None formed h =
          let first = and_parts (is_equal found.comparison && is_none (another_of by var found.places)) (not (int_eq (coefficient_besides by found.places) (pos 0))) h in
          let second = and_parts (is_equal found.comparison) (is_none (another_of by var found.places)) first.0 in
          either (counted by var found.places fits.places_fit (none_of (another_of by var found.places) second.1)) (not_zero (coefficient_besides by found.places) first.1)

  element-variables : (var by index value : VarId) (entries : List Term) → IsVariable count index → IsVariable count value → cond (nat_eq value.0 var.0 && list_all is_constant entries) (Some index) None ≡ Some by → IsVariable count by × IsVariable count var
  element-variables var by index value entries index_fits value_fits is =
      let test = chosen (nat_eq value.0 var.0 && list_all is_constant entries) index by is in
      let e = eqb-true value.0 var.0 (and_parts (nat_eq value.0 var.0) (list_all is_constant entries) test.0).0 in
      (subst (IsVariable count) test.1 index_fits, (subst (λ (n : ℕ). 1 ≤ n) e value_fits.0, subst (λ (n : ℕ). n ≤ count) e value_fits.1))

  forms-variables : (var by : VarId) (c : Constraint) → IsWellFormedConstraint count c → option_and_then (form_decider var) (form_of c) ≡ Some by → IsVariable count by × IsVariable count var
  forms-variables var by c well is =
      let found = then_some (form_decider var) (form_of c) by is in
      form-variables var by found.0 (if_some (Fits count) (form_of c) found.0 found.1 (form_fits count c well)) found.2

  pub decided-variables : (var by : VarId) (c : Constraint) → IsWellFormedConstraint count c → decider_in var c ≡ Some by → IsVariable count by × IsVariable count var
  unfolding IsWellFormedConstraint form_of
  decided-variables var by (constraint.Element (Variable index) entries (Variable value)) well is = element-variables var by index value entries well.0 well.2 is
  decided-variables var by (constraint.Element (Variable index) entries (Constant k)) well is = absurd (no_some by is)
  decided-variables var by (constraint.Element (Constant k) entries value) well is = absurd (no_some by is)
  decided-variables var by c well is = forms-variables var by c well is

-- ---- numbers within their limits

number-small : (count : ℕ) (term : Term) → IsTerm count term → unsigned_abs (number_in term) ≤ 1000000000
number-small count (Constant k) limits = small k limits
  where
    small : (k : ℤ) → IsInLimits k → unsigned_abs k ≤ 1000000000
    small k within = let low = within.0 in let high = within.1 in grind (arith, ints)
number-small count (Variable var) limits = omega arith

fits-bounded : (count : ℕ) (o : Option Form) → IfSome o (Fits count) → IfSome o AreBounded
fits-bounded count None fits = tt
fits-bounded count (Some found) fits = record {
  places = λ k d inside. let fit = fits.places_fit k d inside in (fit.1, number-small count (get_or found.places k d).term fit.0);
  few = fits.short;
  bound = fits.bounded;
}

pub form-bounded : (count : ℕ) (c : Constraint) → IsWellFormedConstraint count c → IfSome (form_of c) AreBounded
form-bounded count c well = fits-bounded count (form_of c) (form_fits count c well)
