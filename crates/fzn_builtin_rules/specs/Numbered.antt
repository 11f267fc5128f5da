-- Choices by number.
use Rattle.std.specs.Prelude.{◌≡◌, ◌≢◌, ◌⊎◌, pos, ℕ, zero, suc, ◌%◌, ◌/◌, ℤ, int_lt, if◌then◌else◌, List, [], ◌∷◌, IfSome}
use Rattle.std.specs.FinSet as set
use Rattle.fzn_domain.specs.IntSet.{IntSet, least}
use Rattle.fzn_domain.specs.Narrow.{set_of}
use Rattle.fzn_values.specs.declared.term.Term.{Term}
use Rattle.fzn_values.specs.declared.term.Term.TheVariants.{Constant, Variable}
use Rattle.fzn_meaning.specs.declared.extremum.Extreme.{Extreme}
use Rattle.fzn_meaning.specs.declared.extremum.Extreme.TheVariants.{Least, Greatest}
use Rattle.fzn_meaning.specs.declared.constraint.Constraint.{Constraint}
use Rattle.fzn_builtin_rules.specs.Choices.{inputs_of, result_of, Relates, NoneOf, count_of}

-- the member that so many members are below
unfoldable pub nth_member : IntSet → ℕ → ℤ
nth_member s zero = least s
nth_member s (suc n) = nth_member (set.remove s (least s)) n

-- the value of the term in the choice with this number, and what of the number is left for the terms behind
abbrev pub nth_value : List IntSet → Term → ℕ → ℤ
nth_value sets (Constant k) n = k
nth_value sets (Variable var) n = nth_member (set_of sets var) n

unfoldable pub value_in : List IntSet → Term → ℕ → ℤ
value_in sets term number = nth_value sets term (number % count_of sets term)

unfoldable pub rest_in : List IntSet → Term → ℕ → ℕ
rest_in sets term number = number / count_of sets term

-- the choice with this number
abbrev pub choice_at : List IntSet → List Term → ℕ → List ℤ
choice_at sets [] number = []
choice_at sets (term ∷ terms) number = value_in sets term number ∷ choice_at sets terms (rest_in sets term number)

abbrev pub rest_after : List IntSet → List Term → ℕ → ℕ
rest_after sets [] number = number
rest_after sets (term ∷ terms) number = rest_after sets terms (rest_in sets term number)

-- the choice with this number fits no value of the result
abbrev pub FailsAt : Constraint → List IntSet → ℕ → Type 0
FailsAt constraint sets number = IfSome (inputs_of constraint) (λ inputs. NoneOf sets (result_of constraint) (Relates constraint (choice_at sets inputs number)))

-- the lesser, or the greater, of two numbers
abbrev pub further : Extreme → ℤ → ℤ → ℤ
further Least x y = if int_lt y x then y else x
further Greatest x y = if int_lt x y then y else x

-- one of the two is 1, and the other is not
abbrev pub IsOneOfTwo : ℤ → ℤ → Type 0
IsOneOfTwo a b = ((a ≡ pos 1) × (b ≢ pos 1)) ⊎ ((a ≢ pos 1) × (b ≡ pos 1))
