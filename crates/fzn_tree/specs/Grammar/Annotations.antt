-- What annotations spell, where this many brackets are open.
use Rattle.std.specs.Prelude.{ℕ, suc, List, [], ◌∷◌, Option, Some, None, nat_lt, if◌then◌else◌}
use Rattle.fzn_lexer.specs.declared.token.Symbol.{Symbol}
use Rattle.fzn_lexer.specs.declared.fault.FaultKind.TheVariants.{TooDeep}
use Rattle.fzn_lexer.specs.declared.token.Kind.TheVariants as k
use Rattle.fzn_lexer.specs.declared.token.Symbol.TheVariants as s
use Rattle.fzn_tree.specs.declared.tree.Ann.{Ann, Ann-F, fold-Ann}
use Rattle.fzn_tree.specs.declared.tree.AnnArg.{AnnArg}
use Rattle.fzn_tree.specs.declared.tree.AnnTerm.{AnnTerm}
use Rattle.fzn_tree.specs.Piece.{Piece, ◌and◌, sign, placed, each, marked}
use Rattle.fzn_tree.specs.Grammar.Limits.{most, deepest}
use Rattle.fzn_tree.specs.Grammar.Values.{listed, name, literal}
use Rattle.fzn_tree.specs.declared.tree.AnnArg.TheVariants as inner_args
use Rattle.fzn_tree.specs.declared.tree.AnnTerm.TheVariants as terms

abbrev pub opened : Symbol → ℕ → List Piece
opened bracket level = record { kind = k.Symbol bracket; position = None; past = if nat_lt level deepest then None else Some TooDeep } ∷ []

-- literal | STRING | annotation
abbrev pub ann_term : ℕ → AnnTerm (ℕ → List Piece) → List Piece
ann_term level (terms.Literal value) = literal value
ann_term level (terms.Text text position) = placed (k.Text text) position
ann_term level (terms.Ann inner) = inner level

abbrev pub ann_entry : ℕ → ℕ → AnnTerm (ℕ → List Piece) → List Piece
ann_entry level n term = marked (nat_lt n most) (ann_term level term)

-- term | "[" [ term { "," term } ] "]"
abbrev pub ann_arg : ℕ → AnnArg (ℕ → List Piece) → List Piece
ann_arg level (inner_args.One inner) = ann_term level inner
ann_arg level (inner_args.List inner) = opened s.OpenBracket level and listed (ann_entry (suc level)) s.CloseBracket inner

-- [ "(" [ arg { "," arg } ] ")" ]
abbrev pub ann_args : ℕ → Option (List (AnnArg (ℕ → List Piece))) → List Piece
ann_args level None = []
ann_args level (Some args) = opened s.OpenParen level and listed (λ n. ann_arg (suc level)) s.CloseParen args

abbrev pub ann_layer : Ann-F (ℕ → List Piece) → ℕ → List Piece
ann_layer layer level = name layer.name and ann_args level layer.args

-- NAME [ "(" [ arg { "," arg } ] ")" ]
unfoldable pub ann : ℕ → Ann → List Piece
ann level a = fold-Ann (ℕ → List Piece) ann_layer a level

-- { "::" annotation }
abbrev pub anns : List Ann → List Piece
anns all = each (λ n a. sign s.Colons and ann 0 a) 0 all
