-- What the parts of an annotation spell, where this many brackets are open.
use Rattle.std.specs.Prelude.{ℕ, suc, List, nat_lt}
use Rattle.fzn_lexer.specs.declared.token.Kind.TheVariants as k
use Rattle.fzn_lexer.specs.declared.token.Symbol.TheVariants as s
use Rattle.fzn_tree.specs.declared.tree.Ann.{Ann}
use Rattle.fzn_tree.specs.declared.tree.AnnArg.{AnnArg}
use Rattle.fzn_tree.specs.declared.tree.AnnTerm.{AnnTerm}
use Rattle.fzn_tree.specs.Piece.{Piece, ◌and◌, sign, placed, marked}
use Rattle.fzn_tree.specs.declared.tree.AnnArg.TheVariants as inner_args
use Rattle.fzn_tree.specs.declared.tree.AnnTerm.TheVariants as terms
use Rattle.fzn_tree.specs.Grammar as grammar

-- literal | STRING | annotation
abbrev pub term_pieces : ℕ → AnnTerm Ann → List Piece
term_pieces level (terms.Literal value) = grammar.literal value
term_pieces level (terms.Text text position) = placed (k.Text text) position
term_pieces level (terms.Ann a) = grammar.ann level a

abbrev pub entry_pieces : ℕ → ℕ → AnnTerm Ann → List Piece
entry_pieces level n x = marked (nat_lt n grammar.most) (term_pieces level x)

-- [ term { "," term } ] "]"
abbrev pub terms_pieces : ℕ → List (AnnTerm Ann) → List Piece
terms_pieces level all = grammar.listed (entry_pieces level) s.CloseBracket all

-- term | "[" [ term { "," term } ] "]"
abbrev pub arg_pieces : ℕ → AnnArg Ann → List Piece
arg_pieces level (inner_args.One one) = term_pieces level one
arg_pieces level (inner_args.List all) = grammar.opened s.OpenBracket level and terms_pieces (suc level) all

-- [ arg { "," arg } ] ")"
abbrev pub args_in : ℕ → List (AnnArg Ann) → List Piece
args_in level all = grammar.listed (λ n. arg_pieces level) s.CloseParen all

-- an annotation behind its two colons
abbrev pub colons : ℕ → Ann → List Piece
colons n a = sign s.Colons and grammar.ann 0 a
