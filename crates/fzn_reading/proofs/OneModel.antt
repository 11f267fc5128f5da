-- The bytes of a file have one model or one fault.
use Rattle.std.proofs.Common.{◌≡◌, ◌≢◌, ◌⊎◌, ℕ, List, Result, Ok, Err, inl, inr, refl, ap, subst}
use Rattle.fzn_lexer.specs.declared.fault.Fault.{Fault}
use Rattle.fzn_lexer.specs.declared.halt.Halt.{Halt}
use Rattle.fzn_lexer.specs.declared.halt.Halt.TheVariants as errors
use Rattle.fzn_lexer.specs.declared.token.Token.{Token}
use Rattle.fzn_lexer.specs.Tokens.{AreTokens, IsLexicalFault}
use Rattle.fzn_lexer.proofs.OneList as lexer
use Rattle.fzn_meaning.specs.declared.model.Model.{Model}
use Rattle.fzn_parser.specs.Parse.{IsTree, IsFault}
use Rattle.fzn_parser.proofs.OneTree as parser
use Rattle.fzn_tree.specs.declared.tree.Tree.{Tree}
use Rattle.fzn_typing.specs.Typed.{IsTyped}
use Rattle.fzn_typing.proofs.OneModel.{one_model_lem}
use Rattle.fzn_reading.specs.Reads.{Reads, HasTree}

same_left : {A B : Type 0} (a b : A) → ◌≡◌ {A = A ⊎ B} (inl a) (inl b) → a ≡ b
same_left a b e = cc

same_right : {A B : Type 0} (a b : B) → ◌≡◌ {A = A ⊎ B} (inr a) (inr b) → a ≡ b
same_right a b e = cc

two_sides : {A B : Type 0} (a : A) (b : B) → ◌≡◌ {A = A ⊎ B} (inl a) (inr b) → ⊥
two_sides a b e = cc

same_fault : (f g : Fault) → ◌≡◌ {A = Result Model (Halt Fault)} (Err (errors.Fault f)) (Err (errors.Fault g)) → f ≡ g
same_fault f g e = cc

model_or_fault : (m : Model) (f : Fault) → ◌≡◌ {A = Result Model (Halt Fault)} (Ok m) (Err (errors.Fault f)) → ⊥
model_or_fault m f e = cc

no_model : (m : Model) → ◌≢◌ {A = Result Model (Halt Fault)} (Ok m) (Err errors.Memory)
no_model m e = cc

no_fault : (f : Fault) → ◌≢◌ {A = Result Model (Halt Fault)} (Err (errors.Fault f)) (Err errors.Memory)
no_fault f e = cc

module _ (bytes : List ℕ) where
  one_tokens : (a b : List Token) → AreTokens bytes a → AreTokens bytes b → a ≡ b
  one_tokens a b p q = same_left a b (lexer.one_reading bytes (inl a) (inl b) p q)

  one_lexical : (f g : Fault) → IsLexicalFault bytes f → IsLexicalFault bytes g → f ≡ g
  one_lexical f g p q = same_right f g (lexer.one_reading bytes (inr f) (inr g) p q)

  lexed : (a : List Token) (f : Fault) → AreTokens bytes a → IsLexicalFault bytes f → ⊥
  lexed a f p q = two_sides a f (lexer.one_reading bytes (inl a) (inr f) p q)

  one_syntactic : (a b : List Token) (f g : Fault) → AreTokens bytes a → AreTokens bytes b → IsFault a f → IsFault b g → f ≡ g
  one_syntactic a b f g p q x y = same_right f g (parser.one_reading b (inr f) (inr g) (subst (λ ts. IsFault ts f) (one_tokens a b p q) x) y)

  one_tree : (t u : Tree) → HasTree bytes t → HasTree bytes u → t ≡ u
  one_tree t u x y = same_left t u (parser.one_reading y.tokens (inl t) (inl u) (subst (λ ts. IsTree ts t) (one_tokens x.tokens y.tokens x.lexed y.lexed) x.parsed) y.parsed)

  parsed : (t : Tree) (a : List Token) (f : Fault) → HasTree bytes t → AreTokens bytes a → IsFault a f → ⊥
  parsed t a f x p y = two_sides t f (parser.one_reading a (inl t) (inr f) (subst (λ ts. IsTree ts t) (one_tokens x.tokens a x.lexed p) x.parsed) y)

  one_typed : (t u : Tree) (x y : Result Model (Halt Fault)) → HasTree bytes t → HasTree bytes u → IsTyped t x → IsTyped u y → x ≢ Err errors.Memory → y ≢ Err errors.Memory → x ≡ y
  one_typed t u x y a b p q = one_model_lem u x y (subst (λ t. IsTyped t x) (one_tree t u a b) p) q

  one_fault : (f g : Fault) → Reads bytes (Err (errors.Fault f)) → Reads bytes (Err (errors.Fault g)) → f ≡ g
  one_fault f g (inl x) (inl y) = one_lexical f g x y
  one_fault f g (inl x) (inr (inl y)) = absurd (lexed y.0 f y.1 x)
  one_fault f g (inl x) (inr (inr y)) = absurd (lexed y.1.tokens f y.1.lexed x)
  one_fault f g (inr (inl x)) (inl y) = absurd (lexed x.0 g x.1 y)
  one_fault f g (inr (inr x)) (inl y) = absurd (lexed x.1.tokens g x.1.lexed y)
  one_fault f g (inr (inl x)) (inr (inl y)) = one_syntactic x.0 y.0 f g x.1 y.1 x.2 y.2
  one_fault f g (inr (inl x)) (inr (inr y)) = absurd (parsed y.0 x.0 f y.1 x.1 x.2)
  one_fault f g (inr (inr x)) (inr (inl y)) = absurd (parsed x.0 y.0 g x.1 y.1 y.2)
  one_fault f g (inr (inr x)) (inr (inr y)) = same_fault f g (one_typed x.0 y.0 (Err (errors.Fault f)) (Err (errors.Fault g)) x.1 y.1 x.2 y.2 (no_fault f) (no_fault g))

  model_only : (m : Model) (f : Fault) → Reads bytes (Ok m) → Reads bytes (Err (errors.Fault f)) → ⊥
  model_only m f x (inl y) = lexed x.1.tokens f x.1.lexed y
  model_only m f x (inr (inl y)) = parsed x.0 y.0 f x.1 y.1 y.2
  model_only m f x (inr (inr y)) = model_or_fault m f (one_typed x.0 y.0 (Ok m) (Err (errors.Fault f)) x.1 y.1 x.2 y.2 (no_model m) (no_fault f))

pub one_read : (bytes : List ℕ) (x y : Result Model (Halt Fault)) → Reads bytes x → Reads bytes y → x ≢ Err errors.Memory → y ≢ Err errors.Memory → x ≡ y
one_read bytes (Ok m) (Ok n) h k some other = one_typed bytes h.0 k.0 (Ok m) (Ok n) h.1 k.1 h.2 k.2 some other
one_read bytes (Err errors.Memory) y h k some other = absurd (some refl)
one_read bytes x (Err errors.Memory) h k some other = absurd (other refl)
one_read bytes (Ok m) (Err (errors.Fault g)) h k some other = absurd (model_only bytes m g h k)
one_read bytes (Err (errors.Fault f)) (Ok n) h k some other = absurd (model_only bytes n f k h)
one_read bytes (Err (errors.Fault f)) (Err (errors.Fault g)) h k some other = ap (λ (fault : Fault). Err (errors.Fault fault)) (one_fault bytes f g h k)
