-- What the parts of a declaration spell.
use Rattle.std.specs.Prelude.{◌≡◌, ℕ, List, ◌++◌, Option}
use Rattle.fzn_lexer.specs.declared.token.Token.{Token}
use Rattle.fzn_lexer.specs.declared.token.Symbol.TheVariants as s
use Rattle.fzn_tree.specs.declared.tree.Basic.{Basic}
use Rattle.fzn_tree.specs.declared.tree.Var.{Var}
use Rattle.fzn_tree.specs.Piece.{Piece, ◌and◌, sign, each_by}
use Rattle.fzn_tree.specs.Grammar as grammar
use Rattle.fzn_parser.specs.declared.declarations.ArrayRest.{ArrayRest}
use Rattle.fzn_parser.specs.declared.declarations.Declared.{Declared}
use Rattle.fzn_parser.specs.declared.declarations.ParamRest.{ParamRest}
use Rattle.fzn_parser.specs.declared.declarations.Declared.TheVariants as declared_as
use Rattle.fzn_parser.specs.Reads.{IsRead}
use Rattle.fzn_parser.specs.GoesOn.{declares}

-- param_base ":" NAME "=" param_value ";"
abbrev pub param_rest : ParamRest → List Piece
param_rest p = grammar.param_base p.base and sign s.Colon and grammar.name p.name and sign s.Equals and grammar.param_value p.value and sign s.Semicolon

-- [ "=" basic ] ";"
abbrev pub given_pieces : Option Basic → List Piece
given_pieces value = grammar.given value and sign s.Semicolon

-- "var" base ":" NAME annotations "=" array ";"
abbrev pub array_rest : ArrayRest → List Piece
array_rest v = sign s.Var and grammar.base v.base and sign s.Colon and grammar.name v.name and grammar.anns v.anns and sign s.Equals and grammar.array v.array and sign s.Semicolon

-- param | array_var
abbrev pub declared : Declared → List Piece
declared (declared_as.Param p) = grammar.param p
declared (declared_as.Array v) = grammar.array_var v

-- { variable }
abbrev pub vars : ℕ → List Var → List Piece
vars n all = each_by grammar.singles_with grammar.var n all

-- all are these variables, and behind them those that are read
pub record AreReadBehind (these : List Var) (before : List Token) (all : List Var) (after : List Token) : Type 0 where
  pub more : List Var
  pub joined : all ≡ these ++ more
  pub read : IsRead (vars 0) declares before more after
