-- Where the rules on a circuit are met.
use Rattle.std.proofs.Common.{◌≡◌, ◌≢◌, ℕ, zero, suc, ◌+◌, ◌<◌, ◌≤◌, Bool, true, false, cond, ◌&&◌, List, [], ◌∷◌, length, get_or, refl, sym, subst, inl, inr, arith, ℤ, pos, ◌+ℤ◌, ◌-ℤ◌, ◌≤ℤ◌, ◌<ℤ◌, All, int_le}
use Rattle.std.specs.Ordering.{int_eq}
use Rattle.std.specs.List.{count_by}
use Rattle.std.proofs.lemmas.Int.{ints}
use Rattle.std.proofs.lemmas.Bool.{cases_lt}
use Rattle.std.proofs.lemmas.List.{get_or_default}
use Rattle.std.proofs.lemmas.List.Elements.{All-get_or}
use Rattle.std.proofs.lemmas.List.Sums.{sum_by-cons}
use Rattle.fzn_domain.specs.declared.literal.Lit.{Lit}
use Rattle.fzn_domain.specs.declared.literal.Op.TheVariants.{AtMost, AtLeast, Equal}
use Rattle.fzn_domain.specs.IntSet.{IntSet}
use Rattle.fzn_domain.specs.Narrow.{is_some_empty}
use Rattle.fzn_values.specs.declared.term.Term.{Term}
use Rattle.fzn_meaning.specs.declared.constraint.Constraint.TheVariants.{Circuit}
use Rattle.fzn_values.specs.Term.{IsTerm}
use Rattle.fzn_rules.specs.declared.rule.Rule.TheVariants.{Rows, Hall}
use Rattle.fzn_rules.specs.Rules.{IsMet}
use Rattle.fzn_sets.specs.Terms.{least_value, greatest_value, IsFixedTo}
use Rattle.fzn_sets.proofs.ValueLemmas.{MayBe-between, MayBe-ends}
use Rattle.fzn_rules.specs.GlobalRows.{IsGlobalRowsMet}
use Rattle.fzn_rules.specs.Hall.{lies_within, IsHallMet}
use Rattle.fzn_propagator.specs.Clause.{AreLeftByClause}
use Rattle.fzn_terms.specs.Denied.{that, IsEntailed}
use Rattle.fzn_terms.proofs.OrderLemmas.{le_same}

pub at_default : (xs : List Term) (k : ℕ) (d e : Term) (P : Term → Type 0) → k < length xs → P (get_or xs k d) → P (get_or xs k e)
at_default xs k d e P inside h = subst P (get_or_default xs k d e inside) h

int_eq_of : (v low high k : ℤ) → low ≤ℤ v → v ≤ℤ high → low ≡ k → high ≡ k → int_eq v k ≡ true
int_eq_of v low high k a b e f = grind (arith, ints)

-- the one value
pub all_fixed : (sets : List IntSet) (term : Term) (k : ℤ) → IsFixedTo sets term k → IsEntailed sets (that term Equal k)
all_fixed sets term k fixed v may =
    let between = MayBe-between sets term v may in
    int_eq_of v (least_value sets term) (greatest_value sets term) k between.0 between.1 fixed.0 fixed.1

too_low : (index : ℤ) → pos 1 ≤ℤ index → int_le index (pos 0) ≡ true → ⊥
too_low index a b = grind (arith, ints)

too_high : (index : ℤ) (n : ℕ) → index ≤ℤ pos n → int_le (pos (n + 1)) index ≡ true → ⊥
too_high index n a b = grind (arith, ints)

module _ (sets : List IntSet) (successors : List Term) where
  pub below_met : (k : ℕ) (d : Term) → k < length successors → IsEntailed sets (that (get_or successors k d) AtMost (pos 0)) → IsMet (Circuit successors) sets Rows
  unfolding IsMet IsGlobalRowsMet
  below_met k d inside all =
      inr (k, get_or successors k d, inside, get_or_default successors k (get_or successors k d) d inside, λ index is may. too_low index is.0 (all index may))

  pub above_met : (k : ℕ) (d : Term) → k < length successors → IsEntailed sets (that (get_or successors k d) AtLeast (pos (length successors + 1))) → IsMet (Circuit successors) sets Rows
  unfolding IsMet IsGlobalRowsMet
  above_met k d inside all =
      inr (k, get_or successors k d, inside, get_or_default successors k (get_or successors k d) d inside, λ index is may. too_high index (length successors) is.1 (all index may))

  within_of : (a b v : ℤ) → int_eq a v ≡ true → int_eq b v ≡ true → (int_le v a && int_le b v) ≡ true
  within_of a b v h k = grind (arith, ints)

  lies_of : (term : Term) (v : ℤ) → is_some_empty sets ≡ false → IsTerm (length sets) term → IsEntailed sets (that term Equal v) → lies_within sets v v term ≡ true
  lies_of term v filled fits all =
      let ends = MayBe-ends sets term filled fits in
      within_of (least_value sets term) (greatest_value sets term) v (all (least_value sets term) ends.0) (all (greatest_value sets term) ends.1)

one_of : {X : Type 0} (p : X → Bool) (xs : List X) (i : ℕ) (d : X) → i < length xs → p (get_or xs i d) ≡ true → 1 ≤ count_by p xs
one_of p [] i d inside h = absurd (omega arith)
one_of p (x ∷ xs) zero d inside h = rw (sum_by-cons (λ y. cond (p y) 1 0) x xs, h) (omega arith)
one_of p (x ∷ xs) (suc i) d inside h = let rest = one_of p xs i d (omega arith) h in rw (sum_by-cons (λ y. cond (p y) 1 0) x xs) (omega arith)

two_of : {X : Type 0} (p : X → Bool) (xs : List X) (i j : ℕ) (d : X) → i < j → j < length xs → p (get_or xs i d) ≡ true → p (get_or xs j d) ≡ true → 2 ≤ count_by p xs
two_of p [] i j d before inside h k = absurd (omega arith)
two_of p (x ∷ xs) i zero d before inside h k = absurd (omega arith)
two_of p (x ∷ xs) zero (suc j) d before inside h k = let rest = one_of p xs j d (omega arith) k in rw (sum_by-cons (λ y. cond (p y) 1 0) x xs, h) (omega arith)
two_of p (x ∷ xs) (suc i) (suc j) d before inside h k = let rest = two_of p xs i j d (omega arith) (omega arith) h k in rw (sum_by-cons (λ y. cond (p y) 1 0) x xs) (omega arith)

pub two_apart : {X : Type 0} (p : X → Bool) (xs : List X) (i j : ℕ) (d : X) → i ≢ j → i < length xs → j < length xs → p (get_or xs i d) ≡ true → p (get_or xs j d) ≡ true → 2 ≤ count_by p xs
two_apart p xs i j d apart one other h k = elim (cases_lt i j) [
  | inl before ↦ two_of p xs i j d before other h k
  | inr past ↦ two_of p xs j i d (omega arith) one k h
]

excess_of : (v : ℤ) (n : ℕ) → 2 ≤ n → ((v -ℤ v) +ℤ pos 1) <ℤ pos n
excess_of v n h = omega (arith, ints)

module _ (declared : List IntSet) (clause : List Lit) (sets : List IntSet) (left : AreLeftByClause declared clause sets) (successors : List Term) (fit : All (IsTerm (length declared)) successors) where
  pub fits_left : All (IsTerm (length sets)) successors
  fits_left = subst (λ (n : ℕ). All (IsTerm n) successors) (sym left.one_each) fit

  pub same_met : (i j : ℕ) (v : ℤ) (d : Term) → i ≢ j → i < length successors → j < length successors → IsEntailed sets (that (get_or successors i d) Equal v) → IsEntailed sets (that (get_or successors j d) Equal v) → IsMet (Circuit successors) sets (Hall v v)
  unfolding IsMet IsHallMet
  same_met i j v d apart one other all_one all_other = record {
    in_order = le_same v v refl;
    excess = excess_of v (count_by (lies_within sets v v) successors)
        (two_apart (lies_within sets v v) successors i j d apart one other
        (lies_of sets successors (get_or successors i d) v left.filled (All-get_or (IsTerm (length sets)) successors i d one fits_left) all_one)
        (lies_of sets successors (get_or successors j d) v left.filled (All-get_or (IsTerm (length sets)) successors j d other fits_left) all_other));
  }
