-- Which values are of the type that is wanted.
use Rattle.std.specs.Prelude.{Bool, true, false, not, List, Option, Some, None, is_some, is_none}
use Rattle.fzn_lexer.specs.declared.token.Position.{Position}
use Rattle.fzn_meaning.specs.declared.model.Kind.TheVariants as k
use Rattle.fzn_names.specs.declared.names.Declared.{Declared}
use Rattle.fzn_names.specs.declared.names.Declared.TheVariants as d
use Rattle.fzn_names.specs.Positions.{when, position_of, position_of_literal}
use Rattle.fzn_names.specs.Values.{NameList, meaning_of, literal_value, basic_meaning}
use Rattle.fzn_tree.specs.declared.tree.Basic.{Basic}
use Rattle.fzn_tree.specs.declared.tree.Literal.{Literal}
use Rattle.fzn_tree.specs.declared.tree.Name.{Name}
use Rattle.fzn_registry.specs.declared.signature.Argument.{Argument}
use Rattle.fzn_registry.specs.declared.signature.Argument.TheVariants.{Integer, Boolean, IntegerConstant, BooleanConstant, IntegerList, BooleanList, IntegerConstantList, BooleanConstantList, Set}

-- the table of what an argument takes
abbrev pub fits : Argument → Declared → Bool
fits Integer (d.Constant k.Integer value) = true
fits Integer (d.Variable k.Integer var) = true
fits Boolean (d.Constant k.Boolean value) = true
fits Boolean (d.Variable k.Boolean var) = true
fits IntegerConstant (d.Constant k.Integer value) = true
fits BooleanConstant (d.Constant k.Boolean value) = true
fits IntegerList (d.Constants k.Integer entries) = true
fits IntegerList (d.Array k.Integer entries) = true
fits BooleanList (d.Constants k.Boolean entries) = true
fits BooleanList (d.Array k.Boolean entries) = true
fits IntegerConstantList (d.Constants k.Integer entries) = true
fits BooleanConstantList (d.Constants k.Boolean entries) = true
fits Set (d.Set values) = true
fits _ _ = false

abbrev pub is_wanted : Argument → Option Declared → Bool
is_wanted wanted None = false
is_wanted wanted (Some value) = fits wanted value

abbrev pub is_set : Option Declared → Bool
is_set (Some (d.Set values)) = true
is_set _ = false

-- ---- where a value is faulty

-- a set
abbrev pub set_literals : Literal → List Position
set_literals literal = when (is_set (Some (literal_value literal))) (position_of_literal literal)

abbrev pub sets_in : NameList → Basic → List Position
sets_in names basic = when (is_set (basic_meaning names basic)) (position_of basic)

-- a name that is not declared
abbrev pub unknown_in : NameList → Basic → List Position
unknown_in names basic = when (is_none (basic_meaning names basic)) (position_of basic)

-- a value of another type than is wanted
abbrev pub wrong_literals : Argument → Literal → List Position
wrong_literals wanted literal = when (not (fits wanted (literal_value literal))) (position_of_literal literal)

abbrev pub wrong_in : NameList → Argument → Basic → List Position
wrong_in names wanted basic = when (not (is_wanted wanted (basic_meaning names basic))) (position_of basic)

-- an earlier name is declared once more
abbrev pub repeated : NameList → Name → List Position
repeated earlier name = when (is_some (meaning_of earlier name.text)) name.position
