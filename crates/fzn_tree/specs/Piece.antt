-- What a tree wants at each position of a text, and which tokens are so spelled.
use Rattle.std.specs.Prelude.{◌≡◌, ℕ, suc, Bool, true, false, List, [], ◌∷◌, ◌++◌, Option, Some, None, IfSome}
use Rattle.fzn_lexer.specs.declared.token.Kind.{Kind}
use Rattle.fzn_lexer.specs.declared.token.Position.{Position}
use Rattle.fzn_lexer.specs.declared.token.Symbol.{Symbol}
use Rattle.fzn_lexer.specs.declared.token.Token.{Token}
use Rattle.fzn_lexer.specs.declared.fault.FaultKind.{FaultKind}
use Rattle.fzn_lexer.specs.declared.fault.FaultKind.TheVariants.{TooMany}
use Rattle.fzn_lexer.specs.declared.token.Kind.TheVariants as k

-- one token of a tree
pub record Piece : Type 0 where
  pub kind : Kind
  -- where it stands, if the tree says so
  pub position : Option Position
  -- the limit that the tree passes at this token
  pub past : Option FaultKind

abbrev pub FitsPiece : Token → Piece → Type 0
FitsPiece token piece = (token.kind ≡ piece.kind) × IfSome piece.position (λ at. token.span.position ≡ at)

-- the tokens are these pieces, one by one
abbrev pub AreSpelled : List Token → List Piece → Type 0
AreSpelled [] [] = Unit {0}
AreSpelled [] (p ∷ ps) = ⊥
AreSpelled (t ∷ ts) [] = ⊥
AreSpelled (t ∷ ts) (p ∷ ps) = FitsPiece t p × AreSpelled ts ps

-- no piece passes a limit
abbrev pub PassNoLimit : List Piece → Type 0
PassNoLimit [] = Unit {0}
PassNoLimit (p ∷ ps) = (p.past ≡ None) × PassNoLimit ps

-- ---- how pieces are put together

infixr 11 ◌and◌
abbrev pub ◌and◌ : List Piece → List Piece → List Piece
ps and qs = ps ++ qs

-- a token without a value
abbrev pub sign_piece : Symbol → Piece
sign_piece s = record { kind = k.Symbol s; position = None; past = None }

abbrev pub sign : Symbol → List Piece
sign s = sign_piece s ∷ []

-- a token of this kind at this position
abbrev pub piece_at : Kind → Position → Piece
piece_at kind position = record { kind = kind; position = Some position; past = None }

abbrev pub placed : Kind → Position → List Piece
placed kind position = piece_at kind position ∷ []

-- one after another, where each may depend on a count that goes on by the one before
abbrev pub each_by : {A : Type 0} → (ℕ → A → ℕ) → (ℕ → A → List Piece) → ℕ → List A → List Piece
each_by next s n [] = []
each_by next s n (a ∷ more) = s n a ++ each_by next s (next n a) more

abbrev pub one_more : {A : Type 0} → ℕ → A → ℕ
one_more n a = suc n

-- one after another, where each may depend on its number
abbrev pub each : {A : Type 0} → (ℕ → A → List Piece) → ℕ → List A → List Piece
each s n all = each_by one_more s n all

-- the first piece of what is one too many passes a limit
abbrev pub marked : Bool → List Piece → List Piece
marked true ps = ps
marked false [] = []
marked false (p ∷ ps) = record p { past = Some TooMany } ∷ ps
