-- What is taken of the tokens one by one.
use Rattle.std.specs.Prelude.{◌≡◌, ℕ, Bool, true, false, List, [], ◌∷◌, length, ℤ, pos, Result, Ok, Err}
use Rattle.fzn_lexer.specs.declared.halt.Halt.{Halt}
use Rattle.fzn_lexer.specs.declared.token.Kind.{Kind}
use Rattle.fzn_lexer.specs.declared.token.Position.{Position}
use Rattle.fzn_lexer.specs.declared.token.Symbol.{Symbol}
use Rattle.fzn_lexer.specs.declared.token.Token.{Token}
use Rattle.fzn_lexer.specs.declared.fault.FaultKind.{FaultKind}
use Rattle.fzn_lexer.specs.declared.fault.FaultKind.TheVariants.{Syntax, TooMany}
use Rattle.fzn_lexer.specs.Kinds.{is_symbol}
use Rattle.fzn_lexer.specs.declared.halt.Halt.TheVariants as halts
use Rattle.fzn_lexer.specs.declared.token.Kind.TheVariants as k
use Rattle.fzn_tree.specs.Piece.{Piece, placed}
use Rattle.fzn_tree.specs.Grammar.{number}
use Rattle.fzn_parser.specs.declared.cursor.Refusal.{Refusal}
use Rattle.fzn_parser.specs.declared.cursor.Start.{Start}
use Rattle.fzn_parser.specs.Begins.{begins}
use Rattle.fzn_parser.specs.Reads.{next_is}

abbrev pub is : Symbol → Token → Bool
is s t = is_symbol s t.kind

-- the text of a name, or what stands between the quotes
abbrev pub text_in : Kind → List ℕ
text_in (k.Symbol s) = []
text_in (k.Name text) = text
text_in (k.Int value) = []
text_in (k.Text text) = text

abbrev pub int_in : Kind → ℤ
int_in (k.Symbol s) = pos 0
int_in (k.Name text) = pos 0
int_in (k.Int value) = value
int_in (k.Text text) = pos 0

-- a fault of this kind at the next token
abbrev pub refusal : FaultKind → List Token → Refusal
refusal kind ts = record { kind = kind; left = length ts }

-- why one more is refused where there are as many as there may be: too many, if one begins with the next token
abbrev pub over : Bool → List Token → Refusal
over true ts = refusal TooMany ts
over false ts = refusal Syntax ts

-- the next token, which is one of these
pub record IsTaken (start : Start) (before : List Token) (taken : Kind × Position) (after : List Token) : Type 0 where
  pub token : Token
  pub parts : before ≡ token ∷ after
  pub wanted : begins start token ≡ true
  pub kind : taken.0 ≡ token.kind
  pub position : taken.1 ≡ token.span.position

-- the next token is none of these
pub record IsUnexpected (start : Start) (before : List Token) (found : Refusal) : Type 0 where
  pub is : found ≡ refusal Syntax before
  pub other : next_is (begins start) before ≡ false

pub record Takes (start : Start) (before : List Token) (result : Result (Kind × Position) (Halt Refusal)) (after : List Token) : Type 0 where
  pub ok : (taken : Kind × Position) → result ≡ Ok taken → IsTaken start before taken after
  pub err : (found : Refusal) → result ≡ Err (halts.Fault found) → IsUnexpected start before found

-- ---- what one token says

-- the number 1
abbrev pub one : Unit {0} → List Piece
one u = number (pos 1)

-- what stands between quotes
abbrev pub text : List ℕ × Position → List Piece
text p = placed (k.Text p.0) p.1
