-- What predicates spell.
use Rattle.std.specs.Prelude.{Bool, true, false, List, [], Option, Some, None}
use Rattle.fzn_lexer.specs.declared.token.Kind.TheVariants as k
use Rattle.fzn_lexer.specs.declared.token.Symbol.TheVariants as s
use Rattle.fzn_tree.specs.declared.tree.Indices.{Indices}
use Rattle.fzn_tree.specs.declared.tree.Predicate.{Predicate}
use Rattle.fzn_tree.specs.declared.tree.PredicateParam.{PredicateParam}
use Rattle.fzn_tree.specs.Piece.{Piece, ◌and◌, sign, placed}
use Rattle.fzn_tree.specs.Grammar.Values.{listed, name}
use Rattle.fzn_tree.specs.Grammar.Types.{base, index}
use Rattle.fzn_tree.specs.declared.tree.Indices.TheVariants as indices

-- "int" | index
abbrev pub index_set : Indices → List Piece
index_set indices.Any = sign s.Int
index_set (indices.Size n) = index n

-- [ "array" "[" index_set "]" "of" ]
abbrev pub predicate_array : Option Indices → List Piece
predicate_array None = []
predicate_array (Some i) = sign s.Array and sign s.OpenBracket and index_set i and sign s.CloseBracket and sign s.Of

-- [ "var" ]
abbrev pub optional_var : Bool → List Piece
optional_var true = sign s.Var
optional_var false = []

-- predicate_array [ "var" ] base ":" NAME
abbrev pub predicate_param : PredicateParam → List Piece
predicate_param p = predicate_array p.array and optional_var p.is_var and base p.base and sign s.Colon and name p.name

-- "predicate" NAME "(" [ predicate_param { "," predicate_param } ] ")" ";"
abbrev pub predicate : Predicate → List Piece
predicate p = placed (k.Symbol s.Predicate) p.position and name p.name and sign s.OpenParen and listed (λ n. predicate_param) s.CloseParen p.params and sign s.Semicolon
