-- What parameters and variables spell.
use Rattle.std.specs.Prelude.{ℕ, suc, List, [], Option, Some, None, nat_lt}
use Rattle.fzn_lexer.specs.declared.token.Kind.TheVariants as k
use Rattle.fzn_lexer.specs.declared.token.Symbol.TheVariants as s
use Rattle.fzn_tree.specs.declared.tree.ArrayVar.{ArrayVar}
use Rattle.fzn_tree.specs.declared.tree.Basic.{Basic}
use Rattle.fzn_tree.specs.declared.tree.Literal.{Literal}
use Rattle.fzn_tree.specs.declared.tree.Param.{Param}
use Rattle.fzn_tree.specs.declared.tree.ParamBase.{ParamBase}
use Rattle.fzn_tree.specs.declared.tree.ParamValue.{ParamValue}
use Rattle.fzn_tree.specs.declared.tree.SingleVar.{SingleVar}
use Rattle.fzn_tree.specs.declared.tree.Size.{Size}
use Rattle.fzn_tree.specs.declared.tree.Var.{Var}
use Rattle.fzn_tree.specs.Piece.{Piece, ◌and◌, sign, placed, marked}
use Rattle.fzn_tree.specs.Grammar.Limits.{most}
use Rattle.fzn_tree.specs.Grammar.Values.{listed, name, literal, basic, array}
use Rattle.fzn_tree.specs.Grammar.Annotations.{anns}
use Rattle.fzn_tree.specs.Grammar.Types.{base, array_of}
use Rattle.fzn_tree.specs.declared.tree.ParamBase.TheVariants as param_bases
use Rattle.fzn_tree.specs.declared.tree.ParamValue.TheVariants as param_values
use Rattle.fzn_tree.specs.declared.tree.Var.TheVariants as vars

-- ---- parameters

-- "bool" | "int" | "set" "of" "int"
abbrev pub param_base : ParamBase → List Piece
param_base (param_bases.Bool position) = placed (k.Symbol s.Bool) position
param_base (param_bases.Int position) = placed (k.Symbol s.Int) position
param_base (param_bases.Set position) = placed (k.Symbol s.Set) position and sign s.Of and sign s.Int

abbrev pub param_entry : ℕ → Literal → List Piece
param_entry n value = marked (nat_lt n most) (literal value)

-- literal | "[" [ literal { "," literal } ] "]"
abbrev pub param_value : ParamValue → List Piece
param_value (param_values.Literal value) = literal value
param_value (param_values.Array position all) = placed (k.Symbol s.OpenBracket) position and listed param_entry s.CloseBracket all

-- [ "array" "[" index "]" "of" ]
abbrev pub param_array : Option Size → List Piece
param_array None = []
param_array (Some size) = array_of size

-- param_array param_base ":" NAME "=" param_value ";"
abbrev pub param : Param → List Piece
param p = param_array p.size and param_base p.base and sign s.Colon and name p.name and sign s.Equals and param_value p.value and sign s.Semicolon

-- ---- variables

-- [ "=" basic ]
abbrev pub given : Option Basic → List Piece
given None = []
given (Some value) = sign s.Equals and basic value

-- "var" base ":" NAME annotations [ "=" basic ] ";"
abbrev pub single_var : SingleVar → List Piece
single_var v = placed (k.Symbol s.Var) v.position and base v.base and sign s.Colon and name v.name and anns v.anns and given v.value and sign s.Semicolon

-- "array" "[" index "]" "of" "var" base ":" NAME annotations "=" array ";"
abbrev pub array_var : ArrayVar → List Piece
array_var v = array_of v.size and sign s.Var and base v.base and sign s.Colon and name v.name and anns v.anns and sign s.Equals and array v.array and sign s.Semicolon

-- single_var | array_var, where so many single variables stand before
abbrev pub var : ℕ → Var → List Piece
var n (vars.Single v) = marked (nat_lt n most) (single_var v)
var n (vars.Array v) = array_var v

abbrev pub singles_with : ℕ → Var → ℕ
singles_with n (vars.Single v) = suc n
singles_with n (vars.Array v) = n
