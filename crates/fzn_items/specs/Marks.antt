-- Annotations that say which constraint defines which variable.
use Rattle.std.specs.Prelude.{Bool, ◌&&◌, List, [], ◌∷◌, Option, Some, None, bytes_eq, codes, if◌then◌else◌}
use Rattle.std.specs.List.{list_any}
use Rattle.fzn_domain.specs.declared.literal.VarId.{VarId}
use Rattle.fzn_mending.specs.Mending.{or_else}
use Rattle.fzn_names.specs.Annotations.{has_no_args}
use Rattle.fzn_names.specs.Values.{NameList, meaning_of}
use Rattle.fzn_names.specs.declared.names.Declared.{Declared}
use Rattle.fzn_names.specs.declared.names.Declared.TheVariants.{Variable}
use Rattle.fzn_tree.specs.declared.tree.Ann.{Ann, out-Ann}
use Rattle.fzn_tree.specs.declared.tree.AnnArg.{AnnArg}
use Rattle.fzn_tree.specs.declared.tree.AnnArg.TheVariants as a
use Rattle.fzn_tree.specs.declared.tree.AnnTerm.TheVariants as t

-- `is_defined_var` without arguments: a constraint defines the variable
abbrev pub is_defined_mark : Ann → Bool
is_defined_mark ann = bytes_eq (out-Ann ann).name.text (codes "is_defined_var") && has_no_args (out-Ann ann).args

abbrev pub is_defined : List Ann → Bool
is_defined anns = list_any is_defined_mark anns

-- ---- what a constraint defines

abbrev pub variable_in : Option Declared → Option VarId
variable_in (Some (Variable kind var)) = Some var
variable_in _ = None

-- the variable whose name the annotation is
abbrev pub variable_named : NameList → Ann → Option VarId
variable_named names ann = if has_no_args (out-Ann ann).args then variable_in (meaning_of names (out-Ann ann).name.text) else None

-- the variable that stands alone among the arguments
abbrev pub sole_variable : NameList → Option (List (AnnArg Ann)) → Option VarId
sole_variable names (Some (a.One (t.Ann ann) ∷ [])) = variable_named names ann
sole_variable names _ = None

-- `defines_var(x)`: the variable x
abbrev pub defined_in : NameList → Ann → Option VarId
defined_in names ann = if bytes_eq (out-Ann ann).name.text (codes "defines_var") then sole_variable names (out-Ann ann).args else None

-- the first variable that the annotations say to be defined
abbrev pub defined_by : NameList → List Ann → Option VarId
defined_by names [] = None
defined_by names (ann ∷ more) = or_else (defined_in names ann) (defined_by names more)
