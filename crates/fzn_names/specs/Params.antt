-- The faults of parameters, and the names that they declare.
use Rattle.std.specs.Prelude.{ℕ, not, List, [], ◌∷◌, ◌++◌, Option, Some, None, map, flat_map, length, nat_eq}
use Rattle.fzn_lexer.specs.declared.fault.Fault.{Fault}
use Rattle.fzn_lexer.specs.declared.fault.FaultKind.TheVariants.{SetRefused, DuplicateName, «Type» as WrongType, Length}
use Rattle.fzn_lexer.specs.declared.token.Position.{Position}
use Rattle.fzn_meaning.specs.declared.model.Kind.{Kind}
use Rattle.fzn_meaning.specs.declared.model.Kind.TheVariants as k
use Rattle.fzn_tree.specs.declared.tree.Param.{Param}
use Rattle.fzn_tree.specs.declared.tree.ParamBase.{ParamBase}
use Rattle.fzn_tree.specs.declared.tree.ParamBase.TheVariants as p
use Rattle.fzn_tree.specs.declared.tree.ParamValue.{ParamValue}
use Rattle.fzn_tree.specs.declared.tree.ParamValue.TheVariants as v
use Rattle.fzn_tree.specs.declared.tree.Size.{Size}
use Rattle.fzn_registry.specs.declared.signature.Argument.{Argument}
use Rattle.fzn_registry.specs.declared.signature.Argument.TheVariants.{IntegerConstant, BooleanConstant, Set}
use Rattle.fzn_names.specs.Positions.{when, at, position_of_literal}
use Rattle.fzn_names.specs.Types.{set_literals, wrong_literals, repeated}
use Rattle.fzn_names.specs.Values.{NameList, literal_value, value_term}
use Rattle.fzn_names.specs.declared.names.Declared.{Declared}
use Rattle.fzn_names.specs.declared.names.Declared.TheVariants.{Constants}

-- ---- faults

abbrev pub set_elements : Option Size → ParamBase → List Position
set_elements (Some size) (p.Set position) = position ∷ []
set_elements _ _ = []

abbrev pub set_values : ParamValue → List Position
set_values (v.Literal literal) = []
set_values (v.Array position entries) = flat_map set_literals entries

abbrev pub wanted_by : ParamBase → Argument
wanted_by (p.Bool position) = BooleanConstant
wanted_by (p.Int position) = IntegerConstant
wanted_by (p.Set position) = Set

abbrev pub wrong_values : Option Size → Argument → ParamValue → List Position
wrong_values None wanted (v.Literal literal) = wrong_literals wanted literal
wrong_values None wanted (v.Array position entries) = position ∷ []
wrong_values (Some size) wanted (v.Literal literal) = position_of_literal literal ∷ []
wrong_values (Some size) wanted (v.Array position entries) = flat_map (wrong_literals wanted) entries

abbrev pub wrong_lengths : Option Size → ParamValue → List Position
wrong_lengths (Some size) (v.Array position entries) = when (not (nat_eq (length entries) size.count)) position
wrong_lengths _ _ = []

-- the faults of a parameter behind these names
unfoldable pub param_faults : NameList → Param → List Fault
param_faults earlier param =
    at SetRefused (set_elements param.size param.base ++ set_values param.value)
    ++ at DuplicateName (repeated earlier param.name)
    ++ at WrongType (wrong_values param.size (wanted_by param.base) param.value)
    ++ at Length (wrong_lengths param.size param.value)

abbrev pub kind_by : ParamBase → Kind
kind_by (p.Bool position) = k.Boolean
kind_by _ = k.Integer

abbrev pub declared_value : ParamBase → ParamValue → Declared
declared_value base (v.Literal literal) = literal_value literal
declared_value base (v.Array position entries) = Constants (kind_by base) (map (λ literal. value_term (literal_value literal)) entries)

abbrev pub declared_param : Param → List ℕ × Declared
declared_param param = (param.name.text, declared_value param.base param.value)

-- the faults of these parameters behind earlier names
abbrev pub params_faults : NameList → List Param → List Fault
params_faults earlier [] = []
params_faults earlier (param ∷ more) = param_faults earlier param ++ params_faults (earlier ++ declared_param param ∷ []) more

abbrev pub param_names : List Param → NameList
param_names params = map declared_param params
