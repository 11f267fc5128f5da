-- What types and the sizes of arrays spell.
use Rattle.std.specs.Prelude.{ℕ, List, [], ◌∷◌, Option, Some, None, pos, nat_le, if◌then◌else◌}
use Rattle.fzn_lexer.specs.declared.fault.FaultKind.TheVariants.{TooMany}
use Rattle.fzn_lexer.specs.declared.token.Kind.TheVariants as k
use Rattle.fzn_lexer.specs.declared.token.Symbol.TheVariants as s
use Rattle.fzn_tree.specs.declared.tree.Base.{Base}
use Rattle.fzn_tree.specs.declared.tree.Size.{Size}
use Rattle.fzn_tree.specs.declared.tree.Values.{Values}
use Rattle.fzn_tree.specs.Piece.{Piece, ◌and◌, sign, placed}
use Rattle.fzn_tree.specs.Grammar.Limits.{most}
use Rattle.fzn_tree.specs.Grammar.Values.{number, values}
use Rattle.fzn_tree.specs.declared.tree.Base.TheVariants as bases

-- "int" | range | "{" [ INT { "," INT } ] "}"
abbrev pub elements : Option Values → List Piece
elements None = sign s.Int
elements (Some v) = values v

-- "bool" | "int" | range | "{" [ INT { "," INT } ] "}" | "set" "of" elements
abbrev pub base : Base → List Piece
base bases.Bool = sign s.Bool
base (bases.Int position) = placed (k.Symbol s.Int) position
base (bases.Values v) = values v
base (bases.Set position v) = placed (k.Symbol s.Set) position and sign s.Of and elements v

-- an INT that is not below 0, the number of an array's entries
abbrev pub array_length : ℕ → List Piece
array_length n = record { kind = k.Int (pos n); position = None; past = if nat_le n most then None else Some TooMany } ∷ []

-- 1 ".." array_length
abbrev pub index : ℕ → List Piece
index n = number (pos 1) and sign s.Dots and array_length n

-- "array" "[" index "]" "of"
abbrev pub array_of : Size → List Piece
array_of size = placed (k.Symbol s.Array) size.position and sign s.OpenBracket and index size.count and sign s.CloseBracket and sign s.Of
