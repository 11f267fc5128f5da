-- What a call answers that reads a phrase: by what the values of the phrase spell.
use Rattle.std.specs.Prelude.{◌≡◌, ℕ, zero, suc, Bool, false, List, [], ◌∷◌, ◌++◌, length, Some, None, Result, Ok, Err, ◌⊎◌}
use Rattle.fzn_lexer.specs.declared.halt.Halt.{Halt}
use Rattle.fzn_lexer.specs.declared.token.Token.{Token}
use Rattle.fzn_lexer.specs.declared.fault.FaultKind.{FaultKind}
use Rattle.fzn_lexer.specs.declared.fault.FaultKind.TheVariants.{Syntax}
use Rattle.fzn_lexer.specs.declared.halt.Halt.TheVariants as halts
use Rattle.fzn_lexer.specs.Tokens.{NoEnd}
use Rattle.fzn_tree.specs.Piece.{Piece, FitsPiece, AreSpelled, PassNoLimit}
use Rattle.fzn_parser.specs.declared.cursor.Refusal.{Refusal}

-- a test of the next token
abbrev pub next_is : (Token → Bool) → List Token → Bool
next_is test [] = false
next_is test (t ∷ ts) = test t

-- a phrase does not go on with the next token
abbrev pub Stops : (Token → Bool) → List Token → Type 0
Stops goes_on ts = next_is goes_on ts ≡ false

-- both lists end, or both go on with this token
abbrev pub SameNext : List Token → List Token → Type 0
SameNext [] [] = Unit {0}
SameNext [] (t ∷ ts) = ⊥
SameNext (t ∷ ts) [] = ⊥
SameNext (t ∷ ts) (u ∷ us) = t ≡ u

-- This holds of each value of which a text, behind which the phrase does not go on, agrees with the front and the token that is next: of
-- the value, of what stands behind its text, and of what stands there behind the front.
abbrev pub ForEachText : {A : Type 0} → (A → List Piece) → (Token → Bool) → List Token → List Token → (A → List Token → List Token → Type 0) → Type 0
ForEachText {A} spell goes_on front rest holds =
    (b : A) (text behind others : List Token) → AreSpelled text (spell b) → Stops goes_on behind → text ++ behind ≡ front ++ others → SameNext others rest → holds b behind others

-- a front of the tokens spells the value, and no text that agrees with it up to and with the next token is another or another value's
pub record IsRead {A : Type 0} (spell : A → List Piece) (goes_on : Token → Bool) (ts : List Token) (a : A) (rest : List Token) : Type 0 where
  pub front : List Token
  pub parts : ts ≡ front ++ rest
  pub plain : NoEnd front
  pub spelled : AreSpelled front (spell a)
  pub within : PassNoLimit (spell a)
  pub only : ForEachText spell goes_on front rest (λ b behind others. (b ≡ a) × (behind ≡ others))

-- some value begins with these tokens, and goes on with these pieces
pub record BeginsValue {A : Type 0} (spell : A → List Piece) (front : List Token) (more : List Piece) : Type 0 where
  pub value : A
  pub pieces : List Piece
  pub parts : spell value ≡ pieces ++ more
  pub spelled : AreSpelled front pieces
  pub within : PassNoLimit pieces

-- the next token passes a limit
abbrev pub PassesLimit : FaultKind → List Token → List Piece → Type 0
PassesLimit kind [] more = ⊥
PassesLimit kind (t ∷ ts) [] = ⊥
PassesLimit kind (t ∷ ts) (p ∷ ps) = FitsPiece t p × (p.past ≡ Some kind)

-- of these pieces the one behind so many passes this limit, where none before it passes one
abbrev pub Limited : FaultKind → ℕ → List Piece → Type 0
Limited kind n [] = ⊥
Limited kind zero (p ∷ ps) = p.past ≡ Some kind
Limited kind (suc n) (p ∷ ps) = p.past ≡ None → Limited kind n ps

-- no value begins with the tokens up to and with the next one
abbrev pub NoneGoesOn : {A : Type 0} → (A → List Piece) → (Token → Bool) → List Token → List Token → Type 0
NoneGoesOn spell goes_on front rest = ForEachText spell goes_on front rest (λ b behind others. ⊥)

-- each value that begins with the tokens up to and with the next one passes this limit there
abbrev pub EachPassesLimit : {A : Type 0} → (A → List Piece) → (Token → Bool) → FaultKind → List Token → List Token → Type 0
EachPassesLimit spell goes_on kind front rest = ForEachText spell goes_on front rest (λ b behind others. Limited kind (length front) (spell b))

-- the refusal stands at the first token that ends all hope: some value begins with the tokens before it, and none goes on with it, or
-- each that does passes a limit there
pub record IsRefused {A : Type 0} (spell : A → List Piece) (goes_on : Token → Bool) (ts : List Token) (refusal : Refusal) : Type 0 where
  pub front : List Token
  pub rest : List Token
  pub parts : ts ≡ front ++ rest
  pub plain : NoEnd front
  pub size : length rest ≡ refusal.left
  pub more : List Piece
  pub begins : BeginsValue spell front more
  pub why : ((refusal.kind ≡ Syntax) × NoneGoesOn spell goes_on front rest) ⊎ (PassesLimit refusal.kind rest more × EachPassesLimit spell goes_on refusal.kind front rest)

-- what is answered, with the tokens before and after it, is the value that is read, or the refusal, or that memory ran out
pub record ReadsValue {A : Type 0} (spell : A → List Piece) (goes_on : Token → Bool) (before : List Token) (result : Result A (Halt Refusal)) (after : List Token) : Type 0 where
  pub ok : (a : A) → result ≡ Ok a → IsRead spell goes_on before a after
  pub err : (refusal : Refusal) → result ≡ Err (halts.Fault refusal) → IsRefused spell goes_on before refusal
