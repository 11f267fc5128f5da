-- A list of solutions in which each passes the cuts of those before it is proper, and it is exhausted where no solution passes all.
use Rattle.std.proofs.Common.{◌≡◌, ℕ, suc, ◌+◌, ◌-◌, List, [], ◌∷◌, Bool, true, false, not, ◌||◌, IsTrue, length, get_or, refl, sym, ◌∙◌, ◌⊎◌, inl, inr, ℤ, pos, ◌+ℤ◌, ◌-ℤ◌, int_le, arith}
use Rattle.std.specs.List.{All, AllByRecursion, Any, AllPairs}
use Rattle.std.specs.Ordering.{int_eq}
use Rattle.std.proofs.lemmas.Int.{ints}
use Rattle.std.proofs.lemmas.List.{get_or_default, get_or_past}
use Rattle.std.proofs.lemmas.List.Elements.{recursion_from_All, All-from_recursion, All-nil}
use Rattle.std.proofs.lemmas.Bool.{cases_lt, cases_Bool}
use Rattle.fzn_domain.specs.declared.literal.VarId.{VarId}
use Rattle.fzn_domain.specs.declared.literal.Lit.{Lit}
use Rattle.fzn_domain.specs.IntSet.{IntSet}
use Rattle.fzn_domain.specs.Limits.{IsInLimits, IsNearLimits}
use Rattle.fzn_domain.specs.Narrow.{IsVariable, IsClauseOver, IsWithin, value_of, is_clause_true}
use Rattle.fzn_values.specs.declared.term.Term.{Term}
use Rattle.fzn_values.specs.declared.term.Term.TheVariants.{Constant, Variable}
use Rattle.fzn_meaning.specs.declared.constraint.Constraint.{Constraint}
use Rattle.fzn_meaning.specs.declared.model.Goal.{Goal}
use Rattle.fzn_meaning.specs.declared.model.Goal.TheVariants.{Satisfy, Minimize, Maximize}
use Rattle.fzn_meaning.specs.declared.model.Model.{Model}
use Rattle.fzn_values.specs.Term.{term_value}
use Rattle.fzn_meaning.specs.Meaning.{IsBit, IsBoolean, HasBooleanSets, HasBooleanValues, booleans_of}
use Rattle.fzn_meaning.specs.Solutions.{IsSolution, Agree, IsInOrder, IsProper, IsCovered, IsExhausted, cut_for, cut_of, PassesCuts}
use Rattle.fzn_meaning.specs.WellFormed.{IsGoal, IsWellFormed}
use Rattle.fzn_meaning.proofs.OrderLemmas.{or_false, better-from_cut, passes-better}

int_eq-same : (x y : ℤ) → int_eq x y ≡ true → x ≡ y
int_eq-same x y h = grind (arith, ints, h)

same-int_eq : (x y : ℤ) → x ≡ y → int_eq x y ≡ true
same-int_eq x y h = grind (arith, ints, h)

-- ---- satisfaction: the cut is false exactly where the outputs agree

abbrev differ : List VarId → List ℤ → List Lit
differ outputs a = cut_for Satisfy outputs a

agree-from_cut : (outputs : List VarId) (a b : List ℤ) → is_clause_true b (differ outputs a) ≡ false → AllByRecursion (λ var. value_of a var ≡ value_of b var) outputs
agree-from_cut [] a b h = tt
agree-from_cut (var ∷ vars) a b h =
    let parts = both (int_eq (value_of b var) (value_of a var)) (is_clause_true b (differ vars a)) h in
    (sym (int_eq-same (value_of b var) (value_of a var) parts.0), agree-from_cut vars a b parts.1)
  where
    both : (x y : Bool) → (not x || y) ≡ false → (x ≡ true) × (y ≡ false)
    both true y h' = (refl, h')
    both false y h' = cc

cut-from_agree : (outputs : List VarId) (a b : List ℤ) → AllByRecursion (λ var. value_of a var ≡ value_of b var) outputs → is_clause_true b (differ outputs a) ≡ false
cut-from_agree [] a b h = refl
cut-from_agree (var ∷ vars) a b h = rw (same-int_eq (value_of b var) (value_of a var) (sym h.0)) (cut-from_agree vars a b h.1)

-- ---- a cut is false at its own solution

pub cut_for-itself : (goal : Goal) (outputs : List VarId) (a : List ℤ) → is_clause_true a (cut_for goal outputs a) ≡ false
cut_for-itself Satisfy outputs a = cut-from_agree outputs a a (same outputs) where
  same : (vars : List VarId) → AllByRecursion (λ var. value_of a var ≡ value_of a var) vars
  same [] = tt
  same (var ∷ vars) = (refl, same vars)
cut_for-itself (Minimize var) outputs a = or_false (int_le (value_of a var) (value_of a var -ℤ pos 1)) ∙ grind (arith, ints)
cut_for-itself (Maximize var) outputs a = or_false (int_le (value_of a var +ℤ pos 1) (value_of a var)) ∙ grind (arith, ints)

pub cut_of-itself : (model : Model) (a : List ℤ) → is_clause_true a (cut_of model a) ≡ false
cut_of-itself model a = cut_for-itself model.goal model.outputs a

-- ---- proper lists

-- each member passes the cuts of those before it
abbrev pub IsCutOff : Goal → List VarId → List (List ℤ) → Type 0
IsCutOff goal outputs found = AllPairs (λ earlier later. IsTrue (is_clause_true later (cut_for goal outputs earlier))) found

in_order-from_cuts : (goal : Goal) (outputs : List VarId) (found : List (List ℤ)) → IsCutOff goal outputs found → IsInOrder goal outputs found
in_order-from_cuts Satisfy outputs found h =
    λ i j d before within agree. clash (get_or found i d) (get_or found j d) (h i j d before within) agree
  where
    clash : (a b : List ℤ) → is_clause_true b (differ outputs a) ≡ true → Agree outputs a b → ⊥
    clash a b t agree =
        let f = cut-from_agree outputs a b (recursion_from_All (λ var. value_of a var ≡ value_of b var) outputs agree) in
        cc
in_order-from_cuts (Minimize var) outputs found h =
    λ k d within. better-from_cut (Minimize var) outputs (get_or found k d) (get_or found (k + 1) d) (λ e. cc) (h k (k + 1) d (omega arith) within)
in_order-from_cuts (Maximize var) outputs found h =
    λ k d within. better-from_cut (Maximize var) outputs (get_or found k d) (get_or found (k + 1) d) (λ e. cc) (h k (k + 1) d (omega arith) within)

pub proper-from_cuts : (model : Model) (found : List (List ℤ)) → All (IsSolution model) found → IsCutOff model.goal model.outputs found → IsProper model found
proper-from_cuts model found solutions cuts = record { solutions = solutions; in_order = in_order-from_cuts model.goal model.outputs found cuts }

-- ---- exhausted lists

-- a is covered by the first member whose cut is false at a
passes_or_covered : (outputs : List VarId) (found : List (List ℤ)) (a : List ℤ) → AllByRecursion (λ m. IsTrue (is_clause_true a (differ outputs m))) found ⊎ Any (Agree outputs a) found
passes_or_covered outputs [] a = inl tt
passes_or_covered outputs (m ∷ ms) a =
    elim (cases_Bool (is_clause_true a (differ outputs m))) [
      | inl t ↦ elim (passes_or_covered outputs ms a) [
        | inl rest ↦ inl (t, rest)
        | inr (k, x, lt, e, p) ↦ inr (suc k, x, omega arith, e, p)
      ]
      | inr f ↦ inr (0, m, omega arith, refl, All-from_recursion (λ var. value_of a var ≡ value_of m var) outputs (other_way m a outputs (agree-from_cut outputs m a f)))
    ]
  where
    other_way : (a b : List ℤ) (vars : List VarId) → AllByRecursion (λ var. value_of a var ≡ value_of b var) vars → AllByRecursion (λ var. value_of b var ≡ value_of a var) vars
    other_way a b [] h = tt
    other_way a b (var ∷ vars) h = (sym h.0, other_way a b vars h.1)

last_is : (found : List (List ℤ)) → get_or found (length found - 1) (get_or found (length found - 1) []) ≡ get_or found (length found - 1) []
last_is [] = refl
last_is (m ∷ ms) = get_or_default (m ∷ ms) (length (m ∷ ms) - 1) (get_or (m ∷ ms) (length (m ∷ ms) - 1) []) [] (omega arith)

covered-from_cuts : (goal : Goal) (outputs : List VarId) (found : List (List ℤ)) (a : List ℤ) → IsCutOff goal outputs found → (All (λ m. IsTrue (is_clause_true a (cut_for goal outputs m))) found → ⊥) → IsCovered goal outputs found a
covered-from_cuts Satisfy outputs found a cuts none =
    elim (passes_or_covered outputs found a) [
      | inl passes ↦ absurd (none (All-from_recursion (λ m. IsTrue (is_clause_true a (differ outputs m))) found passes))
      | inr covered ↦ covered
    ]
covered-from_cuts (Minimize var) outputs found a cuts none = λ better. none (passes-better (Minimize var) outputs found (get_or found (length found - 1) []) a (λ e. cc) cuts (last_is found) better)
covered-from_cuts (Maximize var) outputs found a cuts none = λ better. none (passes-better (Maximize var) outputs found (get_or found (length found - 1) []) a (λ e. cc) cuts (last_is found) better)

pub exhausted-from_cuts : (model : Model) (found : List (List ℤ)) → IsCutOff model.goal model.outputs found → ((a : List ℤ) → IsSolution model a → PassesCuts model found a → ⊥) → IsExhausted model found
exhausted-from_cuts model [] cuts none = λ a solution. none a solution (All-nil (λ m. IsTrue (is_clause_true a (cut_of model m))))
exhausted-from_cuts model (first ∷ rest) cuts none = λ a solution. covered-from_cuts model.goal model.outputs (first ∷ rest) a cuts (none a solution)

-- ---- the variables and the numbers of a cut

differ-variables : (count : ℕ) (outputs : List VarId) (a : List ℤ) → AllByRecursion (IsVariable count) outputs → AllByRecursion (λ (lit : Lit). IsVariable count lit.var) (differ outputs a)
differ-variables count [] a h = tt
differ-variables count (var ∷ vars) a h = (h.0, differ-variables count vars a h.1)

variables : (count : ℕ) (goal : Goal) (outputs : List VarId) (a : List ℤ) → IsGoal count goal → AllByRecursion (IsVariable count) outputs → AllByRecursion (λ (lit : Lit). IsVariable count lit.var) (cut_for goal outputs a)
variables count Satisfy outputs a g h = differ-variables count outputs a h
variables count (Minimize var) outputs a g h = (g, tt)
variables count (Maximize var) outputs a g h = (g, tt)

pub cut_of-variables : (model : Model) (a : List ℤ) → IsWellFormed model → IsClauseOver (length model.vars) (cut_of model a)
cut_of-variables model a h =
    All-from_recursion (λ (lit : Lit). IsVariable (length model.vars) lit.var) (cut_of model a)
    (variables (length model.vars) model.goal model.outputs a h.goal (recursion_from_All (IsVariable (length model.vars)) model.outputs h.outputs))

value_in_limits : (a : List ℤ) (var : VarId) → All IsInLimits a → IsInLimits (value_of a var)
value_in_limits a var h = elim (cases_lt (var.0 - 1) (length a)) [
  | inl inside ↦ h (var.0 - 1) (pos 0) inside
  | inr past ↦ rw (get_or_past a (var.0 - 1) (pos 0) past) zero_in_limits
] where
  zero_in_limits : IsInLimits (pos 0)
  zero_in_limits = (omega (arith, ints), omega (arith, ints))

near : (x : ℤ) → IsInLimits x → IsNearLimits x
near x h = (omega (arith, ints), omega (arith, ints))

near_less : (x : ℤ) → IsInLimits x → IsNearLimits (x -ℤ pos 1)
near_less x h = (omega (arith, ints), omega (arith, ints))

near_more : (x : ℤ) → IsInLimits x → IsNearLimits (x +ℤ pos 1)
near_more x h = (omega (arith, ints), omega (arith, ints))

differ-near : (outputs : List VarId) (a : List ℤ) → All IsInLimits a → AllByRecursion (λ (lit : Lit). IsNearLimits lit.value) (differ outputs a)
differ-near [] a h = tt
differ-near (var ∷ vars) a h = (near (value_of a var) (value_in_limits a var h), differ-near vars a h)

numbers : (goal : Goal) (outputs : List VarId) (a : List ℤ) → All IsInLimits a → AllByRecursion (λ (lit : Lit). IsNearLimits lit.value) (cut_for goal outputs a)
numbers Satisfy outputs a h = differ-near outputs a h
numbers (Minimize var) outputs a h = (near_less (value_of a var) (value_in_limits a var h), tt)
numbers (Maximize var) outputs a h = (near_more (value_of a var) (value_in_limits a var h), tt)

pub cut_of-limits : (model : Model) (a : List ℤ) → All IsInLimits a → All (λ (lit : Lit). IsNearLimits lit.value) (cut_of model a)
cut_of-limits model a h = All-from_recursion (λ (lit : Lit). IsNearLimits lit.value) (cut_of model a) (numbers model.goal model.outputs a h)

-- ---- Boolean terms

term_value-bit : (sets : List IntSet) (a : List ℤ) (term : Term) → IsWithin sets a → IsBoolean sets term → IsBit (term_value a term)
term_value-bit sets a (Constant k) within h = h
term_value-bit sets a (Variable var) within h = elim (cases_lt (var.0 - 1) (length sets)) [
  | inl inside ↦ h (value_of a var) (within.inside (var.0 - 1) inside)
  | inr past ↦ let same = within.one_each in inl (get_or_past a (var.0 - 1) (pos 0) (omega arith))
]

pub bits-choice : (sets : List IntSet) (a : List ℤ) (constraint : Constraint) → IsWithin sets a → HasBooleanSets sets constraint → HasBooleanValues a constraint
bits-choice sets a constraint within h k d inside = term_value-bit sets a (get_or (booleans_of constraint) k d) within (h k d inside)
