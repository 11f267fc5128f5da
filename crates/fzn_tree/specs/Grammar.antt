-- The grammar: what each part of a tree spells. The tree of a list of tokens is the one that spells it.
pub mod Annotations
pub mod Declarations
pub mod Limits
pub mod Predicates
pub mod Types
pub mod Values
use Rattle.std.specs.Prelude.{List, nat_lt}
use Rattle.fzn_lexer.specs.declared.token.Symbol.TheVariants as s
use Rattle.fzn_tree.specs.declared.tree.Con.{Con}
use Rattle.fzn_tree.specs.declared.tree.Goal.{Goal}
use Rattle.fzn_tree.specs.declared.tree.Param.{Param}
use Rattle.fzn_tree.specs.declared.tree.Solve.{Solve}
use Rattle.fzn_tree.specs.declared.tree.Tree.{Tree}
use Rattle.fzn_tree.specs.declared.tree.Var.{Var}
use Rattle.fzn_tree.specs.Piece.{Piece, ◌and◌, sign, each, each_by, marked}
use Rattle.fzn_tree.specs.declared.tree.Goal.TheVariants as goals
pub use Rattle.fzn_tree.specs.Grammar.Limits.{most, most_listed, deepest}
pub use Rattle.fzn_tree.specs.Grammar.Values.{listed, name, int, number, int_range, listed_value, values, literal, basic, entry, array, arg}
pub use Rattle.fzn_tree.specs.Grammar.Annotations.{opened, ann_term, ann_entry, ann_arg, ann_args, ann_layer, anns}
unfoldable pub use Rattle.fzn_tree.specs.Grammar.Annotations.{ann}
pub use Rattle.fzn_tree.specs.Grammar.Types.{elements, base, array_length, index, array_of}
pub use Rattle.fzn_tree.specs.Grammar.Predicates.{index_set, predicate_array, optional_var, predicate_param, predicate}
pub use Rattle.fzn_tree.specs.Grammar.Declarations.{param_base, param_entry, param_value, param_array, param, given, single_var, array_var, var, singles_with}

-- ---- constraints and the goal

-- "constraint" NAME "(" [ arg { "," arg } ] ")" annotations ";"
abbrev pub con : Con → List Piece
con c = sign s.Constraint and name c.name and sign s.OpenParen and listed (λ n. arg) s.CloseParen c.args and anns c.anns and sign s.Semicolon

-- "satisfy" | "minimize" basic | "maximize" basic
abbrev pub goal : Goal → List Piece
goal goals.Satisfy = sign s.Satisfy
goal (goals.Minimize value) = sign s.Minimize and basic value
goal (goals.Maximize value) = sign s.Maximize and basic value

-- "solve" annotations goal ";"
abbrev pub solve : Solve → List Piece
solve wanted = sign s.Solve and anns wanted.anns and goal wanted.goal and sign s.Semicolon

-- ---- the whole

-- { parameter } { variable }
abbrev pub declarations : List Param × List Var → List Piece
declarations p = each (λ n. param) 0 p.0 and each_by singles_with var 0 p.1

-- { predicate } declarations { constraint } solve
abbrev pub items : Tree → List Piece
items t = each (λ n. predicate) 0 t.predicates and declarations (t.params, t.vars) and each (λ n c. marked (nat_lt n most) (con c)) 0 t.cons and solve t.solve

-- items End
abbrev pub tree : Tree → List Piece
tree t = items t and sign s.End
