-- Sets of one value, and sets that a literal splits.
use Rattle.std.proofs.Common.{◌≡◌, ℕ, ◌+◌, ◌<◌, true, not, ℤ, pos, ◌+ℤ◌, ◌≤ℤ◌, int_eq, int_le, List, [], ◌∷◌, ◌++◌, length, get_or, sym, ap, subst, ◌∙◌, inl, inr, arith}
use Rattle.std.specs.FinSet as set
use Rattle.std.proofs.lemmas.Int.{ints}
use Rattle.std.proofs.lemmas.Bool.{and_parts, cases_lt}
use Rattle.std.proofs.lemmas.List.{ext_get_or, get_or_append_left, get_or_push, length_push}
use Rattle.std.proofs.lemmas.List.Elements.{All-from_get_or}
use Rattle.fzn_domain.specs.declared.literal.VarId.{VarId}
use Rattle.fzn_domain.specs.declared.literal.Lit.{Lit}
use Rattle.fzn_domain.specs.declared.literal.Op.TheVariants.{AtMost}
use Rattle.fzn_domain.specs.Literal.{negated}
use Rattle.fzn_domain.specs.IntSet.{IntSet, contains, size, no_values}
use Rattle.fzn_domain.specs.Limits.{IsInLimits}
use Rattle.fzn_domain.specs.Narrow.{IsVariable, IsWithin, set_of}
use Rattle.fzn_domain.proofs.SetLemmas.{possible_when, size-remove, member_of_size, contains-remove, only_member}
use Rattle.fzn_search.specs.Fixed.{AllFixed, Splits}

-- ---- a set with more than one value

another : (s : IntSet) (value : ℤ) → 1 < size s → contains s value ≡ true → (other : ℤ) × (contains s other ≡ true) × (not (int_eq other value) ≡ true)
another s value many member =
    let left = member_of_size (set.remove s value) (omega (arith, size-remove s value member)) in
    let both = and_parts (not (int_eq left.0 value)) (contains s left.0) (sym (contains-remove s value left.0) ∙ left.1) in
    (left.0, both.1, both.0)

itself : (value : ℤ) → int_le value value ≡ true
itself value = grind (arith, ints)

above : (value other : ℤ) → value ≤ℤ other → not (int_eq other value) ≡ true → int_le (value +ℤ pos 1) other ≡ true
above value other h apart = grind (arith, ints)

-- "at most the least value" is true at some values and false at others
pub splits_at_least : (sets : List IntSet) (var : VarId) (value : ℤ) → IsVariable (length sets) var → 1 < size (set_of sets var) → contains (set_of sets var) value ≡ true → ((other : ℤ) → contains (set_of sets var) other ≡ true → value ≤ℤ other) → IsInLimits value → Splits sets (record { var = var; op = AtMost; value = value })
splits_at_least sets var value is_var many member first limits =
    let s : IntSet = set_of sets var in
    let lit : Lit = record { var = var; op = AtMost; value = value } in
    let other = another s value many member in
    record {
      variable = is_var;
      is_open = (possible_when s lit value member (itself value), possible_when s (negated lit) other.0 other.1 (above value other.0 (first other.0 other.1) other.2));
      in_limits = limits;
    }

-- ---- the variables looked at so far

pub AllFixed-from : (sets : List IntSet) (n : ℕ) → n ≡ length sets → ((k : ℕ) → k < n → size (get_or sets k no_values) ≡ 1) → AllFixed sets
AllFixed-from sets n all fixed = All-from_get_or (λ (s : IntSet). size s ≡ 1) sets no_values (λ k below. fixed k (omega arith))

-- the values lie in the first sets
pub record IsWithinUpTo (sets : List IntSet) (values : List ℤ) (n : ℕ) : Type 0 where
  pub count : length values ≡ n
  pub inside : (k : ℕ) → k < n → contains (get_or sets k no_values) (get_or values k (pos 0)) ≡ true

pub IsWithinUpTo-more : (sets : List IntSet) (values : List ℤ) (n : ℕ) (value : ℤ) → contains (get_or sets n no_values) value ≡ true → IsWithinUpTo sets values n → IsWithinUpTo sets (values ++ value ∷ []) (n + 1)
IsWithinUpTo-more sets values n value member so_far = record {
  count = length_push values value ∙ ap (λ m. m + 1) so_far.count;
  inside = λ k below. elim (cases_lt k n) [
    | inl earlier ↦
        let in_list : k < length values = omega (arith, so_far.count) in
        ap (λ (v : ℤ). contains (get_or sets k no_values) v) (get_or_append_left values (value ∷ []) (pos 0) k in_list) ∙ so_far.inside k earlier
    | inr last ↦
        let same : n ≡ k = omega arith in
        ap (λ (v : ℤ). contains (get_or sets k no_values) v) (get_or_push values value (pos 0) k (so_far.count ∙ same))
        ∙ subst (λ (m : ℕ). contains (get_or sets m no_values) value ≡ true) same member
  ];
}

pub IsWithin-whole : (sets : List IntSet) (values : List ℤ) (n : ℕ) → n ≡ length sets → IsWithinUpTo sets values n → IsWithin sets values
IsWithin-whole sets values n all so_far = record { one_each = so_far.count ∙ all; inside = λ k below. so_far.inside k (omega arith) }

-- where each set has one value there is one list of values within
pub within_only : (sets : List IntSet) (a b : List ℤ) → AllFixed sets → IsWithin sets a → IsWithin sets b → a ≡ b
within_only sets a b fixed within_a within_b =
    ext_get_or (pos 0) a b (within_a.one_each ∙ sym within_b.one_each) (λ k h.
    let below : k < length sets = omega (arith, within_a.one_each) in
    only_member (get_or sets k no_values) (get_or a k (pos 0)) (get_or b k (pos 0)) (fixed k no_values below) (within_a.inside k below) (within_b.inside k below))
