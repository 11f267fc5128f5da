-- Which token goes on a phrase.
use Rattle.std.specs.Prelude.{Bool, false, ◌||◌}
use Rattle.fzn_lexer.specs.declared.token.Kind.{Kind}
use Rattle.fzn_lexer.specs.declared.token.Token.{Token}
use Rattle.fzn_lexer.specs.Kinds.{is_symbol}
use Rattle.fzn_lexer.specs.declared.token.Symbol.TheVariants as s
use Rattle.fzn_parser.specs.declared.cursor.Start.TheVariants as w
use Rattle.fzn_parser.specs.Begins.{may_start}

-- a phrase that ends by itself
abbrev pub never : Token → Bool
never t = false

-- a number may be the first of a range, a name may have arguments, and more annotations may stand behind one
abbrev pub goes_on : Kind → Bool
goes_on kind = is_symbol s.Dots kind || is_symbol s.OpenParen kind || is_symbol s.Colons kind

abbrev pub goes_further : Token → Bool
goes_further t = goes_on t.kind

-- one more declaration may follow
abbrev pub any_kind : Kind → Bool
any_kind kind = may_start w.Declaration kind || is_symbol s.Var kind

abbrev pub declares : Token → Bool
declares t = any_kind t.kind
