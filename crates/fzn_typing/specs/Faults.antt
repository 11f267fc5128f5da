-- The faults of each item: by number, and those of one number in the order in which the item is written.
use Rattle.std.specs.Prelude.{not, List, [], ◌∷◌, ◌++◌, Option, Some, None, flat_map, length, nat_eq, is_none}
use Rattle.std.specs.List.{list_any}
use Rattle.fzn_domain.specs.declared.literal.VarId.{VarId}
use Rattle.fzn_lexer.specs.declared.fault.Fault.{Fault}
use Rattle.fzn_lexer.specs.declared.fault.FaultKind.TheVariants.{SetRefused, UnknownName, UnknownConstraint, Arity, «Type» as WrongType, Length, Argument}
use Rattle.fzn_meaning.specs.declared.model.Kind.TheVariants.{Integer}
use Rattle.fzn_names.specs.Declarations.{names_of, declaration_faults}
use Rattle.fzn_names.specs.Positions.{when, at, position_of}
use Rattle.fzn_names.specs.Types.{unknown_in}
use Rattle.fzn_names.specs.Values.{NameList, basic_meaning}
use Rattle.fzn_names.specs.declared.names.Declared.{Declared}
use Rattle.fzn_names.specs.declared.names.Declared.TheVariants.{Variable}
use Rattle.fzn_tree.specs.declared.tree.Basic.{Basic}
use Rattle.fzn_tree.specs.declared.tree.Con.{Con}
use Rattle.fzn_tree.specs.declared.tree.Goal.{Goal}
use Rattle.fzn_tree.specs.declared.tree.Goal.TheVariants as goals
use Rattle.fzn_tree.specs.declared.tree.Tree.{Tree}
use Rattle.fzn_registry.specs.declared.name.Name.{Name}
use Rattle.fzn_registry.specs.Registry.{name_spelled, arguments_of, lengths_of, non_negative_of}
use Rattle.fzn_typing.specs.Arguments.{set_entries, unknown_names, wrong_arguments, has_lengths, has_negative}

-- ---- constraints

-- the faults of lengths and signs
abbrev pub value_faults : NameList → Con → Name → List Fault
value_faults names con name =
    at Length (when (not (has_lengths names (lengths_of name) con.args)) con.name.position)
    ++ at Argument (when (list_any (has_negative names con.args) (non_negative_of name)) con.name.position)

-- the faults of a constraint by its name
abbrev pub named_faults : NameList → Con → Option Name → List Fault
named_faults names con None = at UnknownConstraint (con.name.position ∷ [])
named_faults names con (Some name) =
    at Arity (when (not (nat_eq (length con.args) (length (arguments_of name)))) con.name.position)
    ++ at WrongType (wrong_arguments names (arguments_of name) con.args)
    ++ value_faults names con name

unfoldable pub constraint_faults : NameList → Con → List Fault
constraint_faults names con =
    at SetRefused (flat_map (set_entries names) con.args)
    ++ at UnknownName (flat_map (unknown_names names) con.args)
    ++ named_faults names con (name_spelled con.name.text)

-- ---- the goal

abbrev pub integer_variable : Option Declared → Option VarId
integer_variable (Some (Variable Integer var)) = Some var
integer_variable _ = None

-- the integer variable that is named
abbrev pub objective_of : NameList → Basic → Option VarId
objective_of names basic = integer_variable (basic_meaning names basic)

abbrev pub objective_faults : NameList → Basic → List Fault
objective_faults names basic = at UnknownName (unknown_in names basic) ++ at WrongType (when (is_none (objective_of names basic)) (position_of basic))

abbrev pub goal_faults : NameList → Goal → List Fault
goal_faults names goals.Satisfy = []
goal_faults names (goals.Minimize basic) = objective_faults names basic
goal_faults names (goals.Maximize basic) = objective_faults names basic

-- ---- the file

abbrev pub tree_names : Tree → NameList
tree_names tree = names_of tree.params tree.vars

-- the faults of all items in turn: the first of them is reported
unfoldable pub faults_of : Tree → List Fault
faults_of tree =
    declaration_faults tree.params tree.vars (length tree.cons)
    ++ flat_map (constraint_faults (tree_names tree)) tree.cons
    ++ goal_faults (tree_names tree) tree.solve.goal
