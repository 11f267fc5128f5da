-- Values of sets of which none is empty, and values between the ends.
use Rattle.std.proofs.Common.{◌≡◌, ℕ, zero, suc, ◌-◌, ◌<◌, List, [], ◌∷◌, Bool, false, ◌||◌, length, get_or, refl, sym, ap, ◌∙◌, inl, inr, arith, nat_eq, ℤ, pos, ◌≤ℤ◌}
use Rattle.std.proofs.lemmas.Int.{ints}
use Rattle.std.specs.List.{list_any}
use Rattle.std.specs.Ordering.{int_cmp, eq_by_cmp, int_eq}
use Rattle.std.specs.FinSet as set
use Rattle.std.proofs.lemmas.Bool.{or_parts, cases_lt, cases_Bool, false≢true, ne_eqb}
use Rattle.std.proofs.lemmas.List.Elements.{All-head, All-tail}
use Rattle.std.proofs.lemmas.Bool.Decides.{Decides-int_eq}
use Rattle.std.proofs.lemmas.List.{get_or_past}
use Rattle.fzn_domain.specs.declared.literal.VarId.{VarId}
use Rattle.fzn_domain.specs.IntSet.{IntSet, size, no_values, least, greatest, least_in, greatest_in}
use Rattle.fzn_domain.specs.Narrow.{IsVariable, IsWithin, NoneEmpty, set_of, value_of, is_some_empty}
use Rattle.fzn_domain.proofs.SetLemmas.{contains-no_values, contains-least, contains-greatest, member_of_size, least_le, le_greatest}
use Rattle.fzn_values.specs.declared.term.Term.{Term}
use Rattle.fzn_values.specs.declared.term.Term.TheVariants.{Constant, Variable}
use Rattle.fzn_values.specs.Term.{term_value, IsTerm}
use Rattle.fzn_sets.specs.Terms.{least_value, greatest_value, IsFixedTo, MayBe}

-- ---- sets of which none is empty

not_zero : (n : ℕ) → nat_eq n 0 ≡ false → 0 < n
not_zero n h = grind arith

pub nonempty_at : (sets : List IntSet) (k : ℕ) → is_some_empty sets ≡ false → k < length sets → 0 < size (get_or sets k no_values)
nonempty_at [] k none below = absurd (omega arith)
nonempty_at (s ∷ sets) zero none below = not_zero (size s) (or_parts (nat_eq (size s) 0) (is_some_empty sets) none).0
nonempty_at (s ∷ sets) (suc k) none below = nonempty_at sets k (or_parts (nat_eq (size s) 0) (is_some_empty sets) none).1 (omega arith)

-- the same in other words
pub none_empty : (sets : List IntSet) → NoneEmpty sets → is_some_empty sets ≡ false
none_empty [] h = refl
none_empty (s ∷ sets) h =
    one (nat_eq (size s) 0) (is_some_empty sets) (ne_eqb (size s) 0 (λ e. let some = All-head (λ (t : IntSet). 0 < size t) s sets h in omega arith)) (none_empty sets (All-tail (λ (t : IntSet). 0 < size t) s sets h))
  where
    one : (a b : Bool) → a ≡ false → b ≡ false → (a || b) ≡ false
    one a b p q = ap (λ x. x || b) p ∙ q

pub some_value : (sets : List IntSet) (var : VarId) → is_some_empty sets ≡ false → IsVariable (length sets) var → 0 < size (set_of sets var)
some_value sets var none in_range = nonempty_at sets (var.0 - 1) none (omega arith)

-- ---- between the ends

items_of_none : (xs : List ℤ) → set.items no_values ≡ xs → xs ≡ []
items_of_none [] is = refl
items_of_none (x ∷ xs) is =
    absurd (false≢true (sym (contains-no_values x) ∙ set.contains-items no_values x ∙ ap (list_any (eq_by_cmp int_cmp x)) is ∙ ap (λ (b : Bool). b || list_any (eq_by_cmp int_cmp x) xs) ((Decides-int_eq x x).1 refl)))

least-no_values : least no_values ≡ pos 0
unfolding least
least-no_values = ap least_in (items_of_none (set.items no_values) refl)

greatest-no_values : greatest no_values ≡ pos 0
unfolding greatest
greatest-no_values = ap greatest_in (items_of_none (set.items no_values) refl)

same_le : (a b : ℤ) → a ≡ b → a ≤ℤ b
same_le a b e = omega (arith, ints)

abbrev pub IsBetween : ℤ → ℤ → ℤ → Type 0
IsBetween low high v = (low ≤ℤ v) × (v ≤ℤ high)

-- the value of a term, also of one that is no variable of the sets
pub term_between : (sets : List IntSet) (values : List ℤ) (term : Term) → IsWithin sets values → IsBetween (least_value sets term) (greatest_value sets term) (term_value values term)
term_between sets values (Constant k) within = (same_le k k refl, same_le k k refl)
term_between sets values (Variable var) within = elim (cases_lt (var.0 - 1) (length sets)) [
  | inl below ↦ let there = within.inside (var.0 - 1) below in (least_le (set_of sets var) (value_of values var) there, le_greatest (set_of sets var) (value_of values var) there)
  | inr past ↦
      let no_set : set_of sets var ≡ no_values = get_or_past sets (var.0 - 1) no_values past in
      let no_value : value_of values var ≡ pos 0 = get_or_past values (var.0 - 1) (pos 0) (omega (arith, within.one_each)) in
      (same_le _ _ (ap least no_set ∙ least-no_values ∙ sym no_value), same_le _ _ (no_value ∙ sym (ap greatest no_set ∙ greatest-no_values)))
]

-- a term that is fixed has its one value
pub fixed_value : (sets : List IntSet) (values : List ℤ) (term : Term) (k : ℤ) → IsWithin sets values → IsFixedTo sets term k → term_value values term ≡ k
fixed_value sets values term k within fixed = let between = term_between sets values term within in omega (arith, ints)

-- ---- terms with one value

-- a value of a term lies between its ends
pub MayBe-between : (sets : List IntSet) (term : Term) (v : ℤ) → MayBe sets term v → IsBetween (least_value sets term) (greatest_value sets term) v
MayBe-between sets (Constant k) v may = (same_le k v may, same_le v k (sym may))
MayBe-between sets (Variable var) v may = (least_le (set_of sets var) v may, le_greatest (set_of sets var) v may)

-- its ends are values
pub MayBe-ends : (sets : List IntSet) (term : Term) → is_some_empty sets ≡ false → IsTerm (length sets) term → MayBe sets term (least_value sets term) × MayBe sets term (greatest_value sets term)
MayBe-ends sets (Constant k) none formed = (refl, refl)
MayBe-ends sets (Variable var) none formed =
    let some = member_of_size (set_of sets var) (some_value sets var none formed) in
    (contains-least (set_of sets var) some.0 some.1, contains-greatest (set_of sets var) some.0 some.1)

-- where no value but k is left, the term is fixed to k
pub only_value : (sets : List IntSet) (term : Term) (k : ℤ) → is_some_empty sets ≡ false → IsTerm (length sets) term → ((v : ℤ) → MayBe sets term v → (v ≡ k → ⊥) → ⊥) → IsFixedTo sets term k
only_value sets term k none formed only =
    let ends = MayBe-ends sets term none formed in
    (decided (least_value sets term) k (only (least_value sets term) ends.0), decided (greatest_value sets term) k (only (greatest_value sets term) ends.1))
  where
    decided : (v k : ℤ) → ((v ≡ k → ⊥) → ⊥) → v ≡ k
    decided v k h = elim (cases_Bool (int_eq v k)) [
      | inl e ↦ (Decides-int_eq v k).0 e
      | inr e ↦ absurd (h (λ same. false≢true (sym e ∙ (Decides-int_eq v k).1 same)))
    ]
