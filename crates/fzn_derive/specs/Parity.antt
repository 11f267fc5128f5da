-- Sums of Booleans that are odd or even.
use Rattle.std.specs.Prelude.{◌≡◌, ◌↔◌, ◌⊎◌, ℕ, ◌+◌, ◌<◌, ◌≤◌, ◌%◌, ◌==◌, Bool, true, false, pos, List, [], ◌∷◌, ◌++◌, map, length, if◌then◌else◌, Option, Some, None, IsSomeAnd, option_and_then}
use Rattle.std.specs.Ordering.{int_eq}
use Rattle.std.specs.List.{All, AllPairs, Contains, count_by, filter_map, flat_map}
use Rattle.fzn_list.specs.Limits.{longest}
use Rattle.fzn_domain.specs.IntSet.{IntSet}
use Rattle.fzn_values.specs.declared.term.Term.{Term}
use Rattle.fzn_values.specs.declared.term.Term.TheVariants.{Constant, Variable}
use Rattle.fzn_meaning.specs.declared.relation.Relation.TheVariants.{Equal}
use Rattle.fzn_meaning.specs.declared.constraint.Constraint.{Constraint}
use Rattle.fzn_meaning.specs.declared.constraint.Constraint.TheVariants.{Compare, BoolNot, BoolToInt, BoolXor, ArrayBoolXor}
use Rattle.fzn_meaning.specs.Meaning.{IsBoolean}
use Rattle.fzn_cited.specs.declared.fault.DeriveFault.{DeriveFault}
use Rattle.fzn_cited.specs.declared.fault.DeriveFault.TheVariants.{Memory, NoSuchVariable, NoSuchConstraint, NotDerived}
use Rattle.fzn_cited.specs.Cited.{constraint_at, IsCitedAs, IsCitedWrong, HoldsUpTo}

-- an odd number of these terms are 1, or an even number
pub record Parity : Type 0 where
  pub terms : List Term
  pub odd : Bool

abbrev pub odd_sum : List Term → Option Parity
odd_sum terms = Some (record { terms = terms; odd = true })

abbrev pub even_sum : List Term → Option Parity
even_sum terms = Some (record { terms = terms; odd = false })

-- what the constraint says so of terms that are 0 or 1
unfoldable pub parity_of : Constraint → Option Parity
parity_of (ArrayBoolXor inputs) = odd_sum inputs
parity_of (BoolNot left right) = odd_sum (left ∷ right ∷ [])
parity_of (BoolXor left right result) = even_sum (left ∷ right ∷ result ∷ [])
parity_of (Compare Equal left right None) = even_sum (left ∷ right ∷ [])
parity_of (BoolToInt boolean integer) = even_sum (boolean ∷ integer ∷ [])
parity_of _ = None

-- the constraint says so of some terms, and they are 0 or 1
abbrev pub SaysParity : List IntSet → Constraint → Type 0
SaysParity declared constraint = IsSomeAnd (parity_of constraint) (λ parity. All (IsBoolean declared) parity.terms)

-- what the constraints with these numbers say so
abbrev pub parities : List Constraint → List ℕ → List Parity
parities given ids = filter_map (λ id. option_and_then parity_of (constraint_at given id)) ids

-- all their terms, and how many of them are odd
abbrev pub terms_together : List Parity → List Term
terms_together sums = flat_map (λ parity. parity.terms) sums

abbrev pub odd_together : List Parity → ℕ
odd_together sums = count_by (λ parity. parity.odd) sums

-- the numbers of the variables among the terms, and how many of the terms are the constant 1
abbrev pub variable_number : Term → Option ℕ
variable_number (Constant k) = None
variable_number (Variable var) = Some var.0

abbrev pub variable_numbers : List Term → List ℕ
variable_numbers terms = filter_map variable_number terms

abbrev pub is_one : Term → Bool
is_one (Constant k) = int_eq k (pos 1)
is_one (Variable var) = false

abbrev pub ones_in : List Term → ℕ
ones_in terms = count_by is_one terms

-- the numbers that stand an odd number of times in the list, in rising order
pub record AreOddIn (numbers odd : List ℕ) : Type 0 where
  pub rising : AllPairs (λ a b. a < b) odd
  pub each : (n : ℕ) → Contains odd n ↔ (count_by (λ m. m == n) numbers % 2 ≡ 1)

abbrev pub variable_with : ℕ → Term
variable_with n = Variable (record { 0 = n })

-- the constant 1, where the number is even
abbrev pub one_if_even : ℕ → List Term
one_if_even n = if n % 2 == 0 then Constant (pos 1) ∷ [] else []

-- an odd number of the inputs are 1: of the variables with these numbers and the constant 1 where it is needed
abbrev pub parity_inputs : List Parity → List ℕ → List Term
parity_inputs sums odd = map variable_with odd ++ one_if_even (odd_together sums + ones_in (terms_together sums))

-- each constraint that is cited says whether a sum is odd, and so does what they say together
abbrev pub IsParity : List Constraint → List IntSet → List ℕ → Constraint → Type 0
IsParity given declared ids (ArrayBoolXor inputs) =
    All (IsCitedAs (SaysParity declared) given) ids
    × ((odd : List ℕ) × AreOddIn (variable_numbers (terms_together (parities given ids))) odd × (length odd < longest) × (inputs ≡ parity_inputs (parities given ids) odd))
IsParity given declared ids _ = ⊥

-- up to the first number of no such constraint they are cited so, and this is wrong there
abbrev pub IsSumsFault : List Constraint → List IntSet → List ℕ → DeriveFault → Type 0
IsSumsFault given declared ids fault = HoldsUpTo (IsCitedAs (SaysParity declared) given) (λ id. IsCitedWrong (SaysParity declared) given id fault) ids

-- the variables are too many for one constraint
abbrev pub HasTooManyOdd : List Constraint → List ℕ → Type 0
HasTooManyOdd given ids = (odd : List ℕ) × AreOddIn (variable_numbers (terms_together (parities given ids))) odd × (longest ≤ length odd)

-- the first thing that is wrong: a constraint that says no such thing; then how many variables there are
abbrev pub IsParityFault : List Constraint → List IntSet → List ℕ → DeriveFault → Type 0
IsParityFault given declared ids Memory = ⊥
IsParityFault given declared ids NoSuchVariable = ⊥
IsParityFault given declared ids NoSuchConstraint = IsSumsFault given declared ids NoSuchConstraint
IsParityFault given declared ids NotDerived =
    IsSumsFault given declared ids NotDerived
    ⊎ All (IsCitedAs (SaysParity declared) given) ids × HasTooManyOdd given ids

-- ---- a sum that is added to others

-- 1 for an odd number, 0 for an even one
abbrev pub remainder_of : Bool → ℕ
remainder_of odd = if odd then 1 else 0

-- its terms are 0 or 1, the numbers of its variables come behind those before, and the sum with its constants 1 is so odd or even
pub record IsSumAdded (declared : List IntSet) (before after : List ℕ) (sum : Parity) (odd : Bool) : Type 0 where
  pub are_boolean : All (IsBoolean declared) sum.terms
  pub numbers : after ≡ before ++ variable_numbers sum.terms
  pub remainder : remainder_of odd ≡ (remainder_of sum.odd + ones_in sum.terms) % 2

abbrev pub IsConstraintAdded : List IntSet → List ℕ → List ℕ → Constraint → Bool → Type 0
IsConstraintAdded declared before after constraint odd = IsSomeAnd (parity_of constraint) (λ sum. IsSumAdded declared before after sum odd)

-- the same of the sums of all constraints that are cited
pub record AreAllAdded (given : List Constraint) (declared : List IntSet) (ids : List ℕ) (after : List ℕ) (odd : Bool) : Type 0 where
  pub cited : All (IsCitedAs (SaysParity declared) given) ids
  pub numbers : after ≡ variable_numbers (terms_together (parities given ids))
  pub remainder : remainder_of odd ≡ (odd_together (parities given ids) + ones_in (terms_together (parities given ids))) % 2

-- the list has the number at its end
abbrev pub EndsWith : List ℕ → ℕ → Type 0
EndsWith numbers n = (before : List ℕ) × (numbers ≡ before ++ n ∷ [])
