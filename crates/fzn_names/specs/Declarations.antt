-- The declarations in turn: their faults, and the names that they declare.
use Rattle.std.specs.Prelude.{ℕ, ◌+◌, List, [], ◌∷◌, ◌++◌}
use Rattle.fzn_lexer.specs.declared.fault.Fault.{Fault}
pub use Rattle.fzn_names.specs.Faults.{added_by_value, added_by_entries, added_by, var_faults}
use Rattle.fzn_names.specs.Params.{params_faults, param_names}
use Rattle.fzn_tree.specs.declared.tree.Param.{Param}
use Rattle.fzn_tree.specs.declared.tree.Var.{Var}
use Rattle.fzn_tree.specs.declared.tree.Var.TheVariants as vars
use Rattle.fzn_names.specs.Values.{NameList, entry_terms}
use Rattle.fzn_names.specs.Variables.{kind_of}
use Rattle.fzn_names.specs.declared.names.Declared.{Declared}
use Rattle.fzn_names.specs.declared.names.Declared.TheVariants.{Array, Variable}

-- ---- variables and arrays

abbrev pub declared_name : Var → List ℕ
declared_name (vars.Single var) = var.name.text
declared_name (vars.Array var) = var.name.text

-- a variable with this number, or an array
abbrev pub var_value : NameList → ℕ → Var → Declared
var_value earlier number (vars.Single var) = Variable (kind_of var.base) (record { 0 = number })
var_value earlier number (vars.Array var) = Array (kind_of var.base) (entry_terms earlier var.array.entries)

abbrev pub declared_var : NameList → ℕ → Var → List ℕ × Declared
declared_var earlier number var = (declared_name var, var_value earlier number var)

-- the number of the next variable
abbrev pub number_after : ℕ → Var → ℕ
number_after number (vars.Single var) = number + 1
number_after number (vars.Array var) = number

-- the faults of these declarations behind earlier names and this many constraints, where the next variable has this number
abbrev pub vars_faults : NameList → ℕ → ℕ → List Var → List Fault
vars_faults earlier number before [] = []
vars_faults earlier number before (var ∷ more) =
    var_faults earlier before var ++ vars_faults (earlier ++ declared_var earlier number var ∷ []) (number_after number var) (before + added_by var) more

abbrev pub names_from : NameList → ℕ → List Var → NameList
names_from earlier number [] = earlier
names_from earlier number (var ∷ more) = names_from (earlier ++ declared_var earlier number var ∷ []) (number_after number var) more

-- ---- all declarations

abbrev pub names_of : List Param → List Var → NameList
names_of params vars = names_from (param_names params) 1 vars

-- the faults of all declarations in turn, beside this many constraints of items
abbrev pub declaration_faults : List Param → List Var → ℕ → List Fault
declaration_faults params vars stated = params_faults [] params ++ vars_faults (param_names params) 1 stated vars
