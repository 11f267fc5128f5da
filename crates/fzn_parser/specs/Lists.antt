-- What may stand between commas, and as often as it is written.
use Rattle.std.specs.Prelude.{◌≡◌, ◌≢◌, ℕ, Bool, true, false, List, ◌++◌}
use Rattle.fzn_lexer.specs.declared.token.Symbol.{Symbol}
use Rattle.fzn_lexer.specs.declared.token.Token.{Token}
use Rattle.fzn_lexer.specs.declared.token.Symbol.TheVariants as s
use Rattle.fzn_tree.specs.Piece.{Piece, AreSpelled}
use Rattle.fzn_parser.specs.Reads.{next_is, Stops}
use Rattle.fzn_parser.specs.Taken.{is}

-- a comma goes on no part, nor does the closing sign, with which no part begins
pub record IsListable {A : Type 0} (part : ℕ → A → List Piece) (goes_on : Token → Bool) (close : Symbol) : Type 0 where
  -- there is some part
  pub some : A
  pub not_end : close ≢ s.End
  pub not_comma : close ≢ s.Comma
  pub comma : (v : List Token) → next_is (is s.Comma) v ≡ true → Stops goes_on v
  pub ends : (v : List Token) → next_is (is close) v ≡ true → Stops goes_on v
  pub first : (a : A) (u v : List Token) → AreSpelled u (part 0 a) → next_is (is close) (u ++ v) ≡ false

-- each part begins with this sign, which goes on no part
pub record AreMany {A : Type 0} (part : ℕ → A → List Piece) (goes_on : Token → Bool) (begins : Symbol) : Type 0 where
  pub starts : (k : ℕ) (a : A) (u v : List Token) → AreSpelled u (part k a) → next_is (is begins) (u ++ v) ≡ true
  pub apart : (v : List Token) → next_is (is begins) v ≡ true → Stops goes_on v
