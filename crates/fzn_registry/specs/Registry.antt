-- The constraints: how each is written, and what it is given.
use Rattle.std.specs.Prelude.{◌≡◌, ℕ, List, [], ◌∷◌, Option, find, bytes_eq, codes}
use Rattle.fzn_registry.specs.declared.name.Name.{Name}
use Rattle.fzn_registry.specs.declared.name.Name.TheVariants as n
use Rattle.fzn_registry.specs.declared.signature.Argument.{Argument}
use Rattle.fzn_registry.specs.declared.signature.Argument.TheVariants.{Integer, Boolean, IntegerConstant, IntegerList, BooleanList, IntegerConstantList, BooleanConstantList, Set}
use Rattle.fzn_registry.specs.declared.signature.Lengths.{Lengths}
use Rattle.fzn_registry.specs.declared.signature.Lengths.TheVariants.{Free, SameLength, NotEmpty, Table, Tasks}
use Rattle.fzn_registry.specs.declared.signature.Signature.{Signature}

-- a name as it is written, and the kinds of its arguments
unfoldable pub row : Name → List ℕ × List Argument
row n.IntEq = (codes "int_eq", Integer ∷ Integer ∷ [])
row n.IntNe = (codes "int_ne", Integer ∷ Integer ∷ [])
row n.IntLe = (codes "int_le", Integer ∷ Integer ∷ [])
row n.IntLt = (codes "int_lt", Integer ∷ Integer ∷ [])
row n.IntLinEq = (codes "int_lin_eq", IntegerConstantList ∷ IntegerList ∷ IntegerConstant ∷ [])
row n.IntLinLe = (codes "int_lin_le", IntegerConstantList ∷ IntegerList ∷ IntegerConstant ∷ [])
row n.IntLinNe = (codes "int_lin_ne", IntegerConstantList ∷ IntegerList ∷ IntegerConstant ∷ [])
row n.IntPlus = (codes "int_plus", Integer ∷ Integer ∷ Integer ∷ [])
row n.IntTimes = (codes "int_times", Integer ∷ Integer ∷ Integer ∷ [])
row n.IntDiv = (codes "int_div", Integer ∷ Integer ∷ Integer ∷ [])
row n.IntMod = (codes "int_mod", Integer ∷ Integer ∷ Integer ∷ [])
row n.IntMin = (codes "int_min", Integer ∷ Integer ∷ Integer ∷ [])
row n.IntMax = (codes "int_max", Integer ∷ Integer ∷ Integer ∷ [])
row n.IntAbs = (codes "int_abs", Integer ∷ Integer ∷ [])
row n.ArrayIntMaximum = (codes "array_int_maximum", Integer ∷ IntegerList ∷ [])
row n.ArrayIntMinimum = (codes "array_int_minimum", Integer ∷ IntegerList ∷ [])
row n.ArrayIntElement = (codes "array_int_element", Integer ∷ IntegerConstantList ∷ Integer ∷ [])
row n.ArrayVarIntElement = (codes "array_var_int_element", Integer ∷ IntegerList ∷ Integer ∷ [])
row n.ArrayBoolElement = (codes "array_bool_element", Integer ∷ BooleanConstantList ∷ Boolean ∷ [])
row n.ArrayVarBoolElement = (codes "array_var_bool_element", Integer ∷ BooleanList ∷ Boolean ∷ [])
row n.SetIn = (codes "set_in", Integer ∷ Set ∷ [])
row n.BoolEq = (codes "bool_eq", Boolean ∷ Boolean ∷ [])
row n.BoolLe = (codes "bool_le", Boolean ∷ Boolean ∷ [])
row n.BoolLt = (codes "bool_lt", Boolean ∷ Boolean ∷ [])
row n.BoolNot = (codes "bool_not", Boolean ∷ Boolean ∷ [])
row n.BoolAnd = (codes "bool_and", Boolean ∷ Boolean ∷ Boolean ∷ [])
row n.BoolOr = (codes "bool_or", Boolean ∷ Boolean ∷ Boolean ∷ [])
row n.BoolXor = (codes "bool_xor", Boolean ∷ Boolean ∷ Boolean ∷ [])
row n.ArrayBoolAnd = (codes "array_bool_and", BooleanList ∷ Boolean ∷ [])
row n.ArrayBoolOr = (codes "array_bool_or", BooleanList ∷ Boolean ∷ [])
row n.ArrayBoolXor = (codes "array_bool_xor", BooleanList ∷ [])
row n.BoolClause = (codes "bool_clause", BooleanList ∷ BooleanList ∷ [])
row n.Bool2Int = (codes "bool2int", Boolean ∷ Integer ∷ [])
row n.BoolLinEq = (codes "bool_lin_eq", IntegerConstantList ∷ BooleanList ∷ Integer ∷ [])
row n.BoolLinLe = (codes "bool_lin_le", IntegerConstantList ∷ BooleanList ∷ IntegerConstant ∷ [])
row n.FznAllDifferentInt = (codes "fzn_all_different_int", IntegerList ∷ [])
row n.FznTableInt = (codes "fzn_table_int", IntegerList ∷ IntegerConstantList ∷ [])
row n.FznCumulative = (codes "fzn_cumulative", IntegerList ∷ IntegerList ∷ IntegerList ∷ Integer ∷ [])
row n.FznCircuit = (codes "fzn_circuit", IntegerList ∷ [])
row n.FznInverse = (codes "fzn_inverse", IntegerList ∷ IntegerList ∷ [])
row n.IntEqReif = (codes "int_eq_reif", Integer ∷ Integer ∷ Boolean ∷ [])
row n.IntNeReif = (codes "int_ne_reif", Integer ∷ Integer ∷ Boolean ∷ [])
row n.IntLeReif = (codes "int_le_reif", Integer ∷ Integer ∷ Boolean ∷ [])
row n.IntLtReif = (codes "int_lt_reif", Integer ∷ Integer ∷ Boolean ∷ [])
row n.IntLinEqReif = (codes "int_lin_eq_reif", IntegerConstantList ∷ IntegerList ∷ IntegerConstant ∷ Boolean ∷ [])
row n.IntLinLeReif = (codes "int_lin_le_reif", IntegerConstantList ∷ IntegerList ∷ IntegerConstant ∷ Boolean ∷ [])
row n.IntLinNeReif = (codes "int_lin_ne_reif", IntegerConstantList ∷ IntegerList ∷ IntegerConstant ∷ Boolean ∷ [])
row n.SetInReif = (codes "set_in_reif", Integer ∷ Set ∷ Boolean ∷ [])
row n.BoolEqReif = (codes "bool_eq_reif", Boolean ∷ Boolean ∷ Boolean ∷ [])
row n.BoolLeReif = (codes "bool_le_reif", Boolean ∷ Boolean ∷ Boolean ∷ [])
row n.BoolLtReif = (codes "bool_lt_reif", Boolean ∷ Boolean ∷ Boolean ∷ [])

unfoldable pub spelling_of : Name → List ℕ
spelling_of name = (row name).0

-- all names, in the order of the table
unfoldable pub names : List Name
names =
    n.IntEq ∷ n.IntNe ∷ n.IntLe ∷ n.IntLt ∷ n.IntLinEq ∷ n.IntLinLe ∷ n.IntLinNe ∷ n.IntPlus ∷
    n.IntTimes ∷ n.IntDiv ∷ n.IntMod ∷ n.IntMin ∷ n.IntMax ∷ n.IntAbs ∷ n.ArrayIntMaximum ∷ n.ArrayIntMinimum ∷
    n.ArrayIntElement ∷ n.ArrayVarIntElement ∷ n.ArrayBoolElement ∷ n.ArrayVarBoolElement ∷ n.SetIn ∷ n.BoolEq ∷ n.BoolLe ∷ n.BoolLt ∷
    n.BoolNot ∷ n.BoolAnd ∷ n.BoolOr ∷ n.BoolXor ∷ n.ArrayBoolAnd ∷ n.ArrayBoolOr ∷ n.ArrayBoolXor ∷ n.BoolClause ∷
    n.Bool2Int ∷ n.BoolLinEq ∷ n.BoolLinLe ∷ n.FznAllDifferentInt ∷ n.FznTableInt ∷ n.FznCumulative ∷ n.FznCircuit ∷ n.FznInverse ∷
    n.IntEqReif ∷ n.IntNeReif ∷ n.IntLeReif ∷ n.IntLtReif ∷ n.IntLinEqReif ∷ n.IntLinLeReif ∷ n.IntLinNeReif ∷ n.SetInReif ∷
    n.BoolEqReif ∷ n.BoolLeReif ∷ n.BoolLtReif ∷ []

-- the name that is written so
unfoldable pub name_spelled : List ℕ → Option Name
name_spelled text = find (λ name. bytes_eq (spelling_of name) text) names

unfoldable pub arguments_of : Name → List Argument
arguments_of name = (row name).1

-- what is asked of the lengths of its lists
unfoldable pub lengths_of : Name → Lengths
lengths_of n.IntLinEq = SameLength 0 1
lengths_of n.IntLinLe = SameLength 0 1
lengths_of n.IntLinNe = SameLength 0 1
lengths_of n.IntLinEqReif = SameLength 0 1
lengths_of n.IntLinLeReif = SameLength 0 1
lengths_of n.IntLinNeReif = SameLength 0 1
lengths_of n.BoolLinEq = SameLength 0 1
lengths_of n.BoolLinLe = SameLength 0 1
lengths_of n.ArrayIntMaximum = NotEmpty 1
lengths_of n.ArrayIntMinimum = NotEmpty 1
lengths_of n.FznTableInt = Table 0 1
lengths_of n.FznCumulative = Tasks 0 1 2
lengths_of n.FznInverse = SameLength 0 1
lengths_of _ = Free

-- the places of the arguments whose constants must not be below 0: the durations, the uses and the capacity
unfoldable pub non_negative_of : Name → List ℕ
non_negative_of n.FznCumulative = 1 ∷ 2 ∷ 3 ∷ []
non_negative_of _ = []

-- a signature is the row of its name
pub record IsRow (signature : Signature) : Type 0 where
  pub arguments : signature.arguments.now ≡ arguments_of signature.name
  pub lengths : signature.lengths ≡ lengths_of signature.name
  pub non_negative : signature.non_negative.now ≡ non_negative_of signature.name
