-- What the first token of a phrase may be.
use Rattle.std.specs.Prelude.{Bool, true, false, ◌||◌}
use Rattle.fzn_lexer.specs.declared.token.Kind.{Kind}
use Rattle.fzn_lexer.specs.declared.token.Symbol.{Symbol}
use Rattle.fzn_lexer.specs.declared.token.Token.{Token}
use Rattle.fzn_lexer.specs.Kinds.{is_symbol}
use Rattle.fzn_lexer.specs.declared.token.Kind.TheVariants as k
use Rattle.fzn_lexer.specs.declared.token.Symbol.TheVariants as s
use Rattle.fzn_parser.specs.declared.cursor.Start.{Start}
use Rattle.fzn_parser.specs.declared.cursor.Start.TheVariants as w

abbrev pub literal_signs : Symbol → Bool
literal_signs x = is_symbol s.True (k.Symbol x) || is_symbol s.False (k.Symbol x) || is_symbol s.OpenBrace (k.Symbol x)

-- a type of a parameter
abbrev pub types_begin : Kind → Bool
types_begin kind = is_symbol s.Bool kind || is_symbol s.Int kind || is_symbol s.Set kind

abbrev pub may_start : Start → Kind → Bool
may_start (w.Sign x) kind = is_symbol x kind
may_start w.Name (k.Name text) = true
may_start w.Int (k.Int value) = true
may_start w.Text (k.Text text) = true
may_start w.Literal (k.Symbol x) = literal_signs x
may_start w.Literal (k.Int value) = true
may_start w.Basic (k.Symbol x) = literal_signs x
may_start w.Basic (k.Name text) = true
may_start w.Basic (k.Int value) = true
may_start w.Term (k.Symbol x) = literal_signs x
may_start w.Term (k.Name text) = true
may_start w.Term (k.Int value) = true
may_start w.Term (k.Text text) = true
may_start w.Declaration kind = is_symbol s.Array kind || types_begin kind
may_start w.Var kind = is_symbol s.Var kind || is_symbol s.Array kind
may_start _ _ = false

abbrev pub begins : Start → Token → Bool
begins start t = may_start start t.kind
