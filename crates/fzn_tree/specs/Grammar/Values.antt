-- What numbers, literals, arrays and arguments spell.
use Rattle.std.specs.Prelude.{ℕ, true, false, List, [], ◌∷◌, None, ℤ, nat_lt}
use Rattle.fzn_lexer.specs.declared.token.Symbol.{Symbol}
use Rattle.fzn_lexer.specs.declared.token.Kind.TheVariants as k
use Rattle.fzn_lexer.specs.declared.token.Symbol.TheVariants as s
use Rattle.fzn_tree.specs.declared.tree.Arg.{Arg}
use Rattle.fzn_tree.specs.declared.tree.Array.{Array}
use Rattle.fzn_tree.specs.declared.tree.Basic.{Basic}
use Rattle.fzn_tree.specs.declared.tree.Int.{Int}
use Rattle.fzn_tree.specs.declared.tree.Literal.{Literal}
use Rattle.fzn_tree.specs.declared.tree.Name.{Name}
use Rattle.fzn_tree.specs.declared.tree.Range.{Range}
use Rattle.fzn_tree.specs.declared.tree.Values.{Values}
use Rattle.fzn_tree.specs.Piece.{Piece, ◌and◌, sign, placed, each, marked}
use Rattle.fzn_tree.specs.Grammar.Limits.{most, most_listed}
use Rattle.fzn_tree.specs.declared.tree.Arg.TheVariants as args
use Rattle.fzn_tree.specs.declared.tree.Basic.TheVariants as basics
use Rattle.fzn_tree.specs.declared.tree.Literal.TheVariants as l
use Rattle.fzn_tree.specs.declared.tree.Values.TheVariants as values_are

-- [ part { "," part } ] and the closing sign
abbrev pub listed : {A : Type 0} → (ℕ → A → List Piece) → Symbol → List A → List Piece
listed part close [] = sign close
listed part close (first ∷ more) = part 0 first and each (λ n x. sign s.Comma and part n x) 1 more and sign close

abbrev pub name : Name → List Piece
name n = placed (k.Name n.text) n.position

-- ---- numbers and sets of them

abbrev pub int : Int → List Piece
int i = placed (k.Int i.value) i.position

-- an INT whose position the tree does not say
abbrev pub number : ℤ → List Piece
number z = record { kind = k.Int z; position = None; past = None } ∷ []

-- INT ".." INT
abbrev pub int_range : Range → List Piece
int_range r = int r.low and sign s.Dots and number r.high

abbrev pub listed_value : ℕ → ℤ → List Piece
listed_value n z = marked (nat_lt n most_listed) (number z)

-- int_range | "{" [ INT { "," INT } ] "}"
abbrev pub values : Values → List Piece
values (values_are.Range r) = int_range r
values (values_are.Listed all) = sign s.OpenBrace and listed listed_value s.CloseBrace all

-- ---- values

-- "true" | "false" | INT | int_range | "{" [ INT { "," INT } ] "}"
abbrev pub literal : Literal → List Piece
literal (l.Bool true position) = placed (k.Symbol s.True) position
literal (l.Bool false position) = placed (k.Symbol s.False) position
literal (l.Int i) = int i
literal (l.Range r) = int_range r
literal (l.Set position all) = placed (k.Symbol s.OpenBrace) position and listed listed_value s.CloseBrace all

-- literal | NAME
abbrev pub basic : Basic → List Piece
basic (basics.Literal value) = literal value
basic (basics.Name n) = name n

abbrev pub entry : ℕ → Basic → List Piece
entry n value = marked (nat_lt n most) (basic value)

-- "[" [ basic { "," basic } ] "]"
abbrev pub array : Array → List Piece
array a = placed (k.Symbol s.OpenBracket) a.position and listed entry s.CloseBracket a.entries

-- basic | array
abbrev pub arg : Arg → List Piece
arg (args.Basic value) = basic value
arg (args.Array a) = array a
