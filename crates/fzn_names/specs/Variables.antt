-- The variables that are declared.
use Rattle.std.specs.Prelude.{List, [], ◌∷◌, pos}
use Rattle.fzn_domain.specs.IntSet.{IntSet, no_values, range}
use Rattle.fzn_meaning.specs.declared.model.Kind.{Kind}
use Rattle.fzn_meaning.specs.declared.model.Kind.TheVariants.{Integer, Boolean}
use Rattle.fzn_meaning.specs.declared.model.Var.{Var as ModelVar}
use Rattle.fzn_names.specs.Values.{listed_set}
use Rattle.fzn_tree.specs.declared.tree.Base.{Base}
use Rattle.fzn_tree.specs.declared.tree.Base.TheVariants as bases
use Rattle.fzn_tree.specs.declared.tree.SingleVar.{SingleVar}
use Rattle.fzn_tree.specs.declared.tree.Values.{Values}
use Rattle.fzn_tree.specs.declared.tree.Values.TheVariants as values_are
use Rattle.fzn_tree.specs.declared.tree.Var.{Var}
use Rattle.fzn_tree.specs.declared.tree.Var.TheVariants as vars

abbrev pub kind_of : Base → Kind
kind_of bases.Bool = Boolean
kind_of _ = Integer

abbrev pub values_in : Values → IntSet
values_in (values_are.Range r) = range r.low.value r.high
values_in (values_are.Listed values) = listed_set values

-- none for a type that no variable may have
abbrev pub base_values : Base → IntSet
base_values bases.Bool = range (pos 0) (pos 1)
base_values (bases.Values values) = values_in values
base_values _ = no_values

abbrev pub var_of : SingleVar → ModelVar
var_of var = record { name = var.name.text; domain = base_values var.base; kind = kind_of var.base }

-- the single variables, in order of declaration
abbrev pub vars_of : List Var → List ModelVar
vars_of [] = []
vars_of (vars.Single var ∷ more) = var_of var ∷ vars_of more
vars_of (vars.Array var ∷ more) = vars_of more
