-- The token that is kept without its text, which stands in the file.
use Rattle.std.specs.Prelude.{ℕ, ◌-◌, List, length, take, drop, map, slice_range}
use Rattle.fzn_lexer.specs.declared.kept.TokenForm.{TokenForm}
use Rattle.fzn_lexer.specs.declared.kept.TokenForm.TheVariants as f
use Rattle.fzn_lexer.specs.declared.kept.Kept.{Kept}
use Rattle.fzn_lexer.specs.declared.token.Kind.{Kind}
use Rattle.fzn_lexer.specs.declared.token.Kind.TheVariants as k
use Rattle.fzn_lexer.specs.declared.token.Token.{Token}
use Rattle.fzn_lexer.specs.Positions.{position_after}

-- what stands between the first byte and the last
abbrev pub inside : List ℕ → List ℕ
inside text = take (length text - 2) (drop 1 text)

-- the kind of a token with this text
abbrev pub kind_in : TokenForm → List ℕ → Kind
kind_in (f.Symbol x) text = k.Symbol x
kind_in f.Name text = k.Name text
kind_in (f.Int z) text = k.Int z
kind_in f.Text text = k.Text (inside text)

abbrev pub token_of : List ℕ → Kept → Token
token_of bytes t = record {
  kind = kind_in t.form (slice_range bytes t.start t.end);
  span = record { start = t.start; end = t.end; position = position_after (take t.start bytes) };
}

abbrev pub tokens_of : List ℕ → List Kept → List Token
tokens_of bytes kept = map (token_of bytes) kept
