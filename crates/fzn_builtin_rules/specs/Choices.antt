-- The rules `fixed` and `enum`: no choice of values for the inputs leaves a value for the result.
use Rattle.std.specs.Prelude.{◌≡◌, ℕ, ◌*◌, ◌≤◌, ℤ, pos, ◌+ℤ◌, ◌*ℤ◌, List, [], ◌∷◌, ◌++◌, map, length, take, drop, Option, Some, None, IsSomeAnd}
use Rattle.std.specs.List.{AllZip}
use Rattle.fzn_domain.specs.IntSet.{IntSet, size}
use Rattle.fzn_domain.specs.Narrow.{set_of}
use Rattle.fzn_values.specs.declared.term.Term.{Term}
use Rattle.fzn_values.specs.declared.term.Term.TheVariants.{Constant, Variable}
use Rattle.fzn_values.specs.declared.term.Place.{Place}
use Rattle.fzn_meaning.specs.declared.relation.Comparison.TheVariants.{Equal}
use Rattle.fzn_meaning.specs.declared.constraint.Constraint.{Constraint}
use Rattle.fzn_meaning.specs.declared.constraint.Constraint.TheVariants.{Compare, BoolNot, BoolToInt, Linear, BoolLinEq, Arithmetic, IntAbs, Extremum, Element, SetIn, Gated, BoolXor, ArrayBoolXor, BoolClause}
use Rattle.fzn_meaning.specs.Comparisons.{IsRelated, IsSwitched}
use Rattle.fzn_meaning.specs.Linear.{IsLinear}
use Rattle.fzn_meaning.specs.Arithmetic.{IsArithmetic, IsIntAbs}
use Rattle.fzn_meaning.specs.Extrema.{IsExtremum}
use Rattle.fzn_meaning.specs.Elements.{IsElement}
use Rattle.fzn_meaning.specs.Sets.{IsInSet}
use Rattle.fzn_meaning.specs.Booleans.{IsBoolNot, IsBoolToInt, IsGated, IsBoolXor, IsArrayBoolXor, IsBoolClause}
use Rattle.fzn_sets.specs.Terms.{MayBe}

-- the input places; the five globals have none
unfoldable pub inputs_of : Constraint → Option (List Term)
inputs_of (Compare relation left right switch) = Some (left ∷ right ∷ [])
inputs_of (BoolNot left right) = Some (left ∷ right ∷ [])
inputs_of (BoolToInt boolean integer) = Some (boolean ∷ [])
inputs_of (Linear sum comparison bound switch) = Some (map (λ place. place.term) sum)
inputs_of (BoolLinEq sum total) = Some (map (λ place. place.term) sum)
inputs_of (Arithmetic operation left right result) = Some (left ∷ right ∷ [])
inputs_of (IntAbs of result) = Some (of ∷ [])
inputs_of (Extremum extreme entries result) = Some entries
inputs_of (Element index entries value) = Some (index ∷ entries)
inputs_of (SetIn term set switch) = Some (term ∷ [])
inputs_of (Gated gate inputs result) = Some inputs
inputs_of (BoolXor left right result) = Some (left ∷ right ∷ [])
inputs_of (ArrayBoolXor inputs) = Some inputs
inputs_of (BoolClause positive negative) = Some (positive ++ negative)
inputs_of _ = None

-- the place of the result, where there is one
unfoldable pub result_of : Constraint → Option Term
result_of (Compare relation left right switch) = switch
result_of (BoolToInt boolean integer) = Some integer
result_of (Linear sum comparison bound switch) = switch
result_of (BoolLinEq sum total) = Some total
result_of (Arithmetic operation left right result) = Some result
result_of (IntAbs of result) = Some result
result_of (Extremum extreme entries result) = Some result
result_of (Element index entries value) = Some value
result_of (SetIn term set switch) = switch
result_of (Gated gate inputs result) = Some result
result_of (BoolXor left right result) = Some result
result_of _ = None

-- the sum of the coefficients times the numbers beside them
abbrev pub weighted_sum : List Place → List ℤ → ℤ
weighted_sum [] xs = pos 0
weighted_sum (place ∷ places) [] = pos 0
weighted_sum (place ∷ places) (x ∷ xs) = (place.coefficient *ℤ x) +ℤ weighted_sum places xs

-- the constraint holds of these values of the input places, and of this value of the result's
unfoldable pub Relates : Constraint → List ℤ → Option ℤ → Type 0
Relates (Compare relation left right switch) (a ∷ b ∷ []) r = IsSwitched r (IsRelated relation a b)
Relates (BoolNot left right) (a ∷ b ∷ []) r = IsBoolNot a b
Relates (BoolToInt boolean integer) (a ∷ []) (Some b) = IsBoolToInt a b
Relates (Linear sum comparison bound switch) xs r = IsSwitched r (IsLinear comparison (weighted_sum sum xs) bound)
Relates (BoolLinEq sum total) xs (Some c) = IsLinear Equal (weighted_sum sum xs) c
Relates (Arithmetic operation left right result) (a ∷ b ∷ []) (Some c) = IsArithmetic operation a b c
Relates (IntAbs of result) (a ∷ []) (Some b) = IsIntAbs a b
Relates (Extremum extreme entries result) xs (Some x) = IsExtremum extreme xs x
Relates (Element index entries value) (i ∷ xs) (Some x) = IsElement i xs x
Relates (SetIn term set switch) (x ∷ []) r = IsSwitched r (IsInSet x set)
Relates (Gated gate inputs result) xs (Some r) = IsGated gate xs r
Relates (BoolXor left right result) (a ∷ b ∷ []) (Some r) = IsBoolXor a b r
Relates (ArrayBoolXor inputs) xs r = IsArrayBoolXor xs
Relates (BoolClause positive negative) xs r = IsBoolClause (take (length positive) xs) (drop (length positive) xs)
Relates _ xs r = ⊥

-- ---- choices

-- how many values a term may have
abbrev pub count_of : List IntSet → Term → ℕ
count_of sets (Constant k) = 1
count_of sets (Variable var) = size (set_of sets var)

-- how many ways there are to choose a value for each term
abbrev pub choices : List IntSet → List Term → ℕ
choices sets [] = 1
choices sets (term ∷ terms) = count_of sets term * choices sets terms

-- one value of each term's set
abbrev pub IsChoice : List IntSet → List Term → List ℤ → Type 0
IsChoice sets terms choice = AllZip (MayBe sets) terms choice

-- no value of the result's set makes it hold; without a result it does not hold
abbrev pub NoneOf : List IntSet → Option Term → (Option ℤ → Type 0) → Type 0
NoneOf sets None holds = holds None → ⊥
NoneOf sets (Some result) holds = (value : ℤ) → MayBe sets result value → holds (Some value) → ⊥

abbrev pub NoChoiceFits : Constraint → List IntSet → List Term → Type 0
NoChoiceFits constraint sets inputs = (choice : List ℤ) → IsChoice sets inputs choice → NoneOf sets (result_of constraint) (Relates constraint choice)

-- fixed: there is one choice for the inputs, and it fits no value of the result
abbrev pub IsFixedMet : Constraint → List IntSet → Type 0
IsFixedMet constraint sets = IsSomeAnd (inputs_of constraint) (λ inputs. (choices sets inputs ≡ 1) × NoChoiceFits constraint sets inputs)

-- enum: there are at most 4,096 choices for the inputs, and none fits a value of the result
abbrev pub IsEnumMet : Constraint → List IntSet → Type 0
IsEnumMet constraint sets = IsSomeAnd (inputs_of constraint) (λ inputs. (choices sets inputs ≤ 4096) × NoChoiceFits constraint sets inputs)
