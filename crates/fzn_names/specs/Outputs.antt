-- What is printed of a solution.
use Rattle.std.specs.Prelude.{◌≡◌, ℕ, List, [], ◌∷◌, ◌++◌, map, filter, length, Contains}
use Rattle.std.specs.List.{Any}
use Rattle.fzn_domain.specs.declared.literal.VarId.{VarId}
use Rattle.fzn_meaning.specs.declared.model.OutputItem.{OutputItem}
use Rattle.fzn_meaning.specs.declared.model.OutputItem.TheVariants as items
use Rattle.fzn_values.specs.declared.term.Term.TheVariants as terms
use Rattle.fzn_names.specs.Annotations.{is_marked, is_array_mark, ranges_in, listed_terms}
use Rattle.fzn_names.specs.Declarations.{number_after}
use Rattle.fzn_tree.specs.declared.tree.Ann.{Ann, out-Ann}
use Rattle.fzn_tree.specs.declared.tree.ArrayVar.{ArrayVar}
use Rattle.fzn_tree.specs.declared.tree.SingleVar.{SingleVar}
use Rattle.fzn_tree.specs.declared.tree.Var.{Var}
use Rattle.fzn_tree.specs.declared.tree.Var.TheVariants as vars
use Rattle.fzn_names.specs.Positions.{when}
use Rattle.fzn_names.specs.Values.{NameList, entry_terms}
use Rattle.fzn_names.specs.Variables.{kind_of}

abbrev pub single_item : ℕ → SingleVar → OutputItem
single_item number var = items.Single var.name.text (kind_of var.base) (record { 0 = number })

abbrev pub array_item : NameList → ArrayVar → Ann → OutputItem
array_item names var ann = items.Array var.name.text (kind_of var.base) (ranges_in (listed_terms (out-Ann ann).args)) (entry_terms names var.array.entries)

-- what a declaration's marks ask for, which is one item at most where nothing is faulty
abbrev pub output_items : NameList → ℕ → Var → List OutputItem
output_items names number (vars.Single var) = when (is_marked var.anns) (single_item number var)
output_items names number (vars.Array var) = map (array_item names var) (filter (is_array_mark (length var.array.entries)) var.anns)

-- the items of these declarations, where the next variable has this number
abbrev pub shown_from : NameList → ℕ → List Var → List OutputItem
shown_from names number [] = []
shown_from names number (var ∷ more) = output_items names number var ++ shown_from names (number_after number var) more

-- ---- the variables that are printed

-- the variable is printed in this item
abbrev pub IsShownIn : VarId → OutputItem → Type 0
IsShownIn var (items.Single name kind shown) = shown ≡ var
IsShownIn var (items.Array name kind ranges entries) = Contains entries (terms.Variable var)

abbrev pub IsShown : List OutputItem → VarId → Type 0
IsShown shown var = Any (IsShownIn var) shown
