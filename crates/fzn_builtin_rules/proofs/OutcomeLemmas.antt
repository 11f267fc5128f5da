-- Tests of one choice.
use Rattle.std.proofs.Common.{◌≡◌, ◌↔◌, IsTrue, ℕ, zero, suc, ◌+◌, ◌-◌, ◌<◌, Bool, true, false, not, List, ◌++◌, length, get_or, take, drop, refl, sym, ap, subst, ◌∙◌, inl, inr, arith, ℤ, pos, nat_eq, nat_lt, eqb-true, eq-eqb, Some}
use Rattle.std.specs.List.{Any, count_by}
use Rattle.std.specs.Ordering.{int_eq}
use Rattle.std.proofs.lemmas.Bool.{false≢true}
use Rattle.std.proofs.Math.Seq.{take-append_seam, drop-append_seam}
use Rattle.fzn_domain.specs.IntSet.{IntSet}
use Rattle.fzn_values.specs.declared.term.Term.{Term}
use Rattle.fzn_meaning.specs.declared.boolean.Gate.TheVariants.{And, Or}
use Rattle.fzn_values.specs.Entries.{IsIndex, entry_at}
use Rattle.fzn_meaning.specs.Comparisons.{IsSwitched}
use Rattle.fzn_meaning.specs.Elements.{IsElement}
use Rattle.fzn_meaning.specs.Booleans.{Passes, IsBoolClause}
use Rattle.fzn_sets.specs.Terms.{MayBe}
use Rattle.fzn_builtin_rules.specs.Choices.{NoneOf}
use Rattle.fzn_builtin_rules.specs.Numbered.{choice_at, rest_after}
use Rattle.fzn_builtin_rules.proofs.ChosenLemmas.{count_all, count_some, length-choice_at, choice_at-append}

abbrev ones : List ℤ → ℕ
ones xs = count_by (λ (x : ℤ). int_eq x (pos 1)) xs

-- ---- gates

pub and_test : (xs : List ℤ) (r n : ℕ) → r ≡ ones xs → length xs ≡ n → IsTrue (nat_eq r n) ↔ Passes And xs
and_test xs r n is count = (λ yes. (count_all (pos 1) xs).0 (sym is ∙ eqb-true r n yes ∙ sym count), λ all. eq-eqb r n (is ∙ (count_all (pos 1) xs).1 all ∙ count))

more_than_none : (r : ℕ) → IsTrue (nat_lt 0 r) ↔ (0 < r)
more_than_none r = (λ h. grind arith, λ h. grind arith)

pub or_test : (xs : List ℤ) (r : ℕ) → r ≡ ones xs → IsTrue (nat_lt 0 r) ↔ Passes Or xs
or_test xs r is = (
  λ yes. (count_some (pos 1) xs).0 (subst (λ (n : ℕ). 0 < n) is ((more_than_none r).0 yes)),
  λ any. (more_than_none r).1 (subst (λ (n : ℕ). 0 < n) (sym is) ((count_some (pos 1) xs).1 any)),
)

-- ---- one result

-- where the relation holds of one value alone, it fails where that is not in the set
pub one_result : (sets : List IntSet) (of : Term) (P : ℤ → Type 0) (found : ℤ) (b : Bool) → ((v : ℤ) → P v ↔ (found ≡ v)) → IsTrue b ↔ MayBe sets of found → IsTrue (not b) ↔ ((v : ℤ) → MayBe sets of v → P v → ⊥)
one_result sets of P found true one may = (λ no. absurd (false≢true no), λ none. absurd (none found (may.0 refl) ((one found).1 refl)))
one_result sets of P found false one may = (λ yes v here holds. false≢true (may.1 (subst (MayBe sets of) (sym ((one v).0 holds)) here)), λ none. refl)

pub element_is : (xs : List ℤ) (i entry : ℤ) (p : ℕ) → IsIndex (length xs) i → pos (p + 1) ≡ i → entry ≡ get_or xs p (pos 0) → (v : ℤ) → IsElement i xs v ↔ (entry ≡ v)
element_is xs i entry p at place is v =
    let same : p + 1 - 1 ≡ p = omega arith in
    let there : entry_at xs i ≡ entry = ap (entry_at xs) (sym place) ∙ ap (λ (n : ℕ). get_or xs n (pos 0)) same ∙ sym is in
    (λ h. sym there ∙ h.1, λ h. (at, there ∙ h))

-- ---- clauses

none_counted : (w : ℤ) (xs : List ℤ) (r : ℕ) → r ≡ count_by (λ (x : ℤ). int_eq x w) xs → IsTrue (nat_eq r 0) ↔ (Any (λ (x : ℤ). x ≡ w) xs → ⊥)
none_counted w xs r is = (
  λ yes any. let some = (count_some w xs).1 any in let none = eqb-true r 0 yes in omega arith,
  λ none. eq-eqb r 0 (nothing r (λ some. none ((count_some w xs).0 (subst (λ (n : ℕ). 0 < n) is some)))),
)
  where
    nothing : (r : ℕ) → (0 < r → ⊥) → r ≡ 0
    nothing zero h = refl
    nothing (suc r) h = absurd (h (omega arith))

-- the two parts of a clause's choice
pub clause_parts : (sets : List IntSet) (positive negative : List Term) (n : ℕ) → IsBoolClause (take (length positive) (choice_at sets (positive ++ negative) n)) (drop (length positive) (choice_at sets (positive ++ negative) n)) ↔ IsBoolClause (choice_at sets positive n) (choice_at sets negative (rest_after sets positive n))
clause_parts sets positive negative n =
    let front = choice_at sets positive n in
    let back = choice_at sets negative (rest_after sets positive n) in
    let all : choice_at sets (positive ++ negative) n ≡ front ++ back = choice_at-append sets positive negative n in
    let count : length positive ≡ length front = sym (length-choice_at sets positive n) in
    let first : take (length positive) (choice_at sets (positive ++ negative) n) ≡ front = ap (λ (k : ℕ). take k (choice_at sets (positive ++ negative) n)) count ∙ ap (take (length front)) all ∙ take-append_seam front back in
    let second : drop (length positive) (choice_at sets (positive ++ negative) n) ≡ back = ap (λ (k : ℕ). drop k (choice_at sets (positive ++ negative) n)) count ∙ ap (drop (length front)) all ∙ drop-append_seam front back in (
      λ h. subst (λ (xs : List ℤ). IsBoolClause xs back) first (subst (λ (ys : List ℤ). IsBoolClause (take (length positive) (choice_at sets (positive ++ negative) n)) ys) second h),
      λ h. subst (λ (ys : List ℤ). IsBoolClause (take (length positive) (choice_at sets (positive ++ negative) n)) ys) (sym second) (subst (λ (xs : List ℤ). IsBoolClause xs back) (sym first) h),
    )

-- a positive value is 1
pub clause_true : (sets : List IntSet) (positive negative : List Term) (n r : ℕ) → r ≡ ones (choice_at sets positive n) → (r ≡ 0 → ⊥) → IsTrue (nat_eq r 0) ↔ (IsBoolClause (take (length positive) (choice_at sets (positive ++ negative) n)) (drop (length positive) (choice_at sets (positive ++ negative) n)) → ⊥)
clause_true sets positive negative n r is some =
    let parts = clause_parts sets positive negative n in
    let front = none_counted (pos 1) (choice_at sets positive n) r is in
    (λ yes. absurd (some (eqb-true r 0 yes)), λ none. front.1 (λ any. none (parts.1 (inl any))))

-- none is, so the negative ones decide
pub clause_open : (sets : List IntSet) (positive negative : List Term) (n r s : ℕ) → r ≡ ones (choice_at sets positive n) → r ≡ 0 → s ≡ count_by (λ (x : ℤ). int_eq x (pos 0)) (choice_at sets negative (rest_after sets positive n)) → IsTrue (nat_eq s 0) ↔ (IsBoolClause (take (length positive) (choice_at sets (positive ++ negative) n)) (drop (length positive) (choice_at sets (positive ++ negative) n)) → ⊥)
clause_open sets positive negative n r s r_is none_front s_is =
    let parts = clause_parts sets positive negative n in
    let front = none_counted (pos 1) (choice_at sets positive n) r r_is in
    let back = none_counted (pos 0) (choice_at sets negative (rest_after sets positive n)) s s_is in (
      λ yes clause. elim (parts.0 clause) [ inl any ↦ front.0 (eq-eqb r 0 none_front) any | inr any ↦ back.0 yes any ],
      λ none. back.1 (λ any. none (parts.1 (inr any))),
    )

-- ---- results that are 1 exactly where something holds

pub switched_by : (sets : List IntSet) (of : Term) (b p : Bool) (P : Type 0) → IsTrue p ↔ P → IsTrue b ↔ NoneOf sets (Some of) (λ v. IsSwitched v (IsTrue p)) → IsTrue b ↔ NoneOf sets (Some of) (λ v. IsSwitched v P)
switched_by sets of b p P same test = (
  λ yes v may holds. test.0 yes v may (λ one. same.1 (holds.0 one), λ is. holds.1 (same.0 is)),
  λ none. test.1 (λ v may holds. none v may (λ one. same.0 (holds.0 one), λ is. holds.1 (same.1 is))),
)
