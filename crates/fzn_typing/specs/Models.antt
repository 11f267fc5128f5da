-- The model that a tree without faults states.
use Rattle.std.specs.Prelude.{◌≡◌, ◌<◌, ◌↔◌, List, [], ◌∷◌, ◌++◌, Option, Some, None, map, flat_map, option_map, Contains, AllPairs}
use Rattle.fzn_domain.specs.declared.literal.VarId.{VarId}
use Rattle.fzn_meaning.specs.declared.constraint.Constraint.{Constraint}
use Rattle.fzn_meaning.specs.declared.constraint.Constraint.TheVariants.{SetIn}
use Rattle.fzn_meaning.specs.declared.model.Goal.{Goal}
use Rattle.fzn_meaning.specs.declared.model.Goal.TheVariants.{Satisfy, Minimize, Maximize}
use Rattle.fzn_meaning.specs.declared.model.Kind.{Kind}
use Rattle.fzn_meaning.specs.declared.model.Kind.TheVariants.{Integer, Boolean}
use Rattle.fzn_meaning.specs.declared.model.Model.{Model}
use Rattle.fzn_names.specs.Outputs.{IsShown, shown_from}
use Rattle.fzn_names.specs.Values.{NameList, term_of}
use Rattle.fzn_names.specs.Variables.{kind_of, values_in, vars_of}
use Rattle.fzn_tree.specs.declared.tree.Arg.{Arg}
use Rattle.fzn_tree.specs.declared.tree.Arg.TheVariants as args
use Rattle.fzn_tree.specs.declared.tree.Base.{Base}
use Rattle.fzn_tree.specs.declared.tree.Base.TheVariants as bases
use Rattle.fzn_tree.specs.declared.tree.Basic.{Basic}
use Rattle.fzn_tree.specs.declared.tree.Basic.TheVariants as basics
use Rattle.fzn_tree.specs.declared.tree.Con.{Con}
use Rattle.fzn_tree.specs.declared.tree.Goal.{Goal as Wanted}
use Rattle.fzn_tree.specs.declared.tree.Goal.TheVariants as goals
use Rattle.fzn_tree.specs.declared.tree.SingleVar.{SingleVar}
use Rattle.fzn_tree.specs.declared.tree.Tree.{Tree}
use Rattle.fzn_tree.specs.declared.tree.Var.{Var}
use Rattle.fzn_tree.specs.declared.tree.Var.TheVariants as vars
use Rattle.fzn_registry.specs.declared.name.Name.{Name}
use Rattle.fzn_registry.specs.declared.name.Name.TheVariants as n
use Rattle.fzn_registry.specs.Registry.{name_spelled}
use Rattle.fzn_typing.specs.Constraints.{constraint_for}
use Rattle.fzn_typing.specs.Faults.{objective_of, tree_names}

-- ---- constraints

abbrev pub named : NameList → List Arg → Option Name → List Constraint
named names given None = []
named names given (Some name) = constraint_for names given name ∷ []

-- the constraint of an item, where its name is in the registry
abbrev pub stated : NameList → Con → List Constraint
stated names con = named names con.args (name_spelled con.name.text)

abbrev pub equality : Kind → Name
equality Integer = n.IntEq
equality Boolean = n.BoolEq

-- `= e` behind a variable x: `int_eq(x, e)` or `bool_eq(x, e)`
abbrev pub equalities : NameList → SingleVar → Option Basic → List Constraint
equalities names var None = []
equalities names var (Some value) =
    constraint_for names (args.Basic (basics.Name var.name) ∷ args.Basic value ∷ []) (equality (kind_of var.base)) ∷ []

-- entries of a range or a listed set S: `set_in(entry, S)` for each in turn, constants included
abbrev pub element_domains : NameList → Base → List Basic → List Constraint
element_domains names (bases.Values values) entries = map (λ entry. SetIn (term_of names entry) (values_in values) None) entries
element_domains names _ entries = []

abbrev pub written : NameList → Var → List Constraint
written names (vars.Single var) = equalities names var var.value
written names (vars.Array var) = element_domains names var.base var.array.entries

-- the numbered constraints: the items first, in order; then those of the declarations, in order
abbrev pub numbered : Tree → List Constraint
numbered tree = flat_map (stated (tree_names tree)) tree.cons ++ flat_map (written (tree_names tree)) tree.vars

-- ---- the goal

abbrev pub goal_of : NameList → Wanted → Option Goal
goal_of names goals.Satisfy = Some Satisfy
goal_of names (goals.Minimize basic) = option_map Minimize (objective_of names basic)
goal_of names (goals.Maximize basic) = option_map Maximize (objective_of names basic)

-- ---- the model

pub record IsModelOf (tree : Tree) (model : Model) : Type 0 where
  pub vars : model.vars ≡ vars_of tree.vars
  pub constraints : model.constraints ≡ numbered tree
  pub goal : goal_of (tree_names tree) tree.solve.goal ≡ Some model.goal
  pub shown : model.shown ≡ shown_from (tree_names tree) 1 tree.vars
  pub outputs : (var : VarId) → Contains model.outputs var ↔ IsShown model.shown var
  -- each once, in rising order
  pub rising : AllPairs (λ (a b : VarId). a.0 < b.0) model.outputs
