-- The forms of a phrase, by the token that is next.
use Rattle.std.proofs.Common.{◌≡◌, Bool, true, false, List, [], ◌∷◌, ◌++◌, Result, refl, sym, subst, inl, inr}
use Rattle.std.specs.Prelude.{pos}
use Rattle.fzn_lexer.specs.declared.fault.FaultKind.TheVariants.{Syntax, TooMany}
use Rattle.fzn_lexer.specs.declared.halt.Halt.{Halt}
use Rattle.fzn_lexer.specs.declared.token.Kind.{Kind}
use Rattle.fzn_lexer.specs.declared.token.Position.{Position}
use Rattle.fzn_lexer.specs.declared.token.Symbol.{Symbol}
use Rattle.fzn_lexer.specs.declared.token.Token.{Token}
use Rattle.fzn_lexer.specs.declared.token.Kind.TheVariants as k
use Rattle.fzn_tree.specs.declared.tree.Int.{Int}
use Rattle.fzn_tree.specs.declared.tree.Name.{Name}
use Rattle.fzn_tree.specs.Piece.{Piece, FitsPiece, AreSpelled, sign, placed, marked}
use Rattle.fzn_tree.specs.Grammar as G
use Rattle.fzn_parser.specs.declared.cursor.Refusal.{Refusal}
use Rattle.fzn_parser.specs.Reads.{next_is, SameNext, PassesLimit, Limited, IsRefused, ReadsValue}
use Rattle.fzn_parser.specs.GoesOn.{never}
use Rattle.fzn_parser.specs.Taken.{over, refusal}
use Rattle.fzn_parser.proofs.SpelledLaws.{next_is-same}
use Rattle.fzn_parser.proofs.Onward.{Parts, last, part}
use Rattle.fzn_parser.proofs.TokenLaws.{some_position}

-- ---- tokens that agree up to the next one pass a test alike

pub clash : (test : Token → Bool) (ts w : List Token) → next_is test ts ≡ true → SameNext w ts → next_is test w ≡ false → ⊥
clash test ts w passes same fails = let e = next_is-same test w ts same in cc

pub clash' : (test : Token → Bool) (ts w : List Token) → next_is test ts ≡ false → SameNext w ts → next_is test w ≡ true → ⊥
clash' test ts w fails same passes = let e = next_is-same test w ts same in cc

-- ---- parts of one token

pub some_name : Name
some_name = record { text = 97 ∷ []; position = some_position }

pub some_int : Int
some_int = record { value = pos 0; position = some_position }

abbrev pub word : Symbol → Parts → Parts
word x ps = part (λ (u : Unit {0}). sign x) never tt ps

abbrev pub last_word : Symbol → Parts
last_word x = last (λ (u : Unit {0}). sign x) never tt

abbrev pub placed_word : Symbol → Parts → Parts
placed_word x ps = part (λ (at : Position). placed (k.Symbol x) at) never some_position ps

abbrev pub last_placed : Symbol → Parts
last_placed x = last (λ (at : Position). placed (k.Symbol x) at) never some_position

abbrev pub named : Parts → Parts
named ps = part G.name never some_name ps

-- ---- a limit on the number of values

-- the first piece decides, whether it passes a limit or not
pub marked_next : (f : Kind → Bool) (b below : Bool) (ps : List Piece) (u v : List Token) → ((w z : List Token) → AreSpelled w ps → next_is (λ t. f t.kind) (w ++ z) ≡ b) → AreSpelled u (marked below ps) → next_is (λ t. f t.kind) (u ++ v) ≡ b
marked_next f b true ps u v first spelled = first u v spelled
marked_next f b false [] u v first spelled = first u v spelled
marked_next f b false (p ∷ ps) [] v first spelled = absurd spelled
marked_next f b false (p ∷ ps) (t ∷ u) v first spelled = first (t ∷ u) v spelled

pub marked_spelled : (b : Bool) (u : List Token) (ps : List Piece) → AreSpelled u (marked b ps) → AreSpelled u ps
marked_spelled true u ps spelled = spelled
marked_spelled false u [] spelled = spelled
marked_spelled false [] (p ∷ ps) spelled = absurd spelled
marked_spelled false (y ∷ u) (p ∷ ps) spelled = spelled

pub within_limit : {A : Type 0} {s : A → List Piece} {g : Token → Bool} {ts : List Token} {r : Result A (Halt Refusal)} {rest : List Token} (below : Bool) → below ≡ true → ReadsValue s g ts r rest → ReadsValue (λ a. marked below (s a)) g ts r rest
within_limit {A} {s} {g} {ts} {r} {rest} below e p = subst (λ (b : Bool). ReadsValue (λ a. marked b (s a)) g ts r rest) (sym e) p

-- a value that the token begins
abbrev pub First : {A : Type 0} → (A → List Piece) → Token → Type 0
First {A} spell t = (x : A) × (p : Piece) × (ps : List Piece) × (spell x ≡ p ∷ ps) × FitsPiece t p

-- each value passes a test at its first token, and each token that passes it begins a value
pub record IsTold {A : Type 0} (test : Token → Bool) (s : A → List Piece) : Type 0 where
  pub some : A
  pub starts : (a : A) (u v : List Token) → AreSpelled u (s a) → next_is test (u ++ v) ≡ true
  pub first : (t : Token) → test t ≡ true → First s t

module _ {A : Type 0} {test : Token → Bool} {s : A → List Piece} (w : IsTold test s) (g : Token → Bool) where
  abbrev one_over : A → List Piece
  one_over a = marked false (s a)

  over_limited : (ps : List Piece) → (ps ≡ [] → ⊥) → Limited TooMany 0 (marked false ps)
  over_limited [] some = some refl
  over_limited (p ∷ ps) some = refl

  over_some : (b : A) → s b ≡ [] → ⊥
  over_some b none = let e = w.starts b [] [] (subst (λ (z : List Piece). AreSpelled [] z) (sym none) tt) in cc

  over_refused : (ts : List Token) → next_is test ts ≡ true → IsRefused one_over g ts (refusal TooMany ts)
  over_refused [] there = absurd cc
  over_refused (t ∷ ts) there =
      let f = w.first t there in
      record {
        front = [];
        rest = t ∷ ts;
        parts = refl;
        plain = tt;
        size = refl;
        more = one_over f.0;
        begins = record { value = f.0; pieces = []; parts = refl; spelled = tt; within = tt };
        why = inr (subst (λ (z : List Piece). PassesLimit TooMany (t ∷ ts) (marked false z)) (sym f.3) (f.4, refl), λ b u v x spelled stops same next. over_limited (s b) (over_some b));
      }

  other_refused : (ts : List Token) → next_is test ts ≡ false → IsRefused one_over g ts (refusal Syntax ts)
  other_refused ts there = record {
    front = [];
    rest = ts;
    parts = refl;
    plain = tt;
    size = refl;
    more = one_over w.some;
    begins = record { value = w.some; pieces = []; parts = refl; spelled = tt; within = tt };
    why = inl (refl, λ b u v x spelled stops same next. clash' test ts (u ++ v) there (subst (λ (z : List Token). SameNext z ts) (sym same) next) (w.starts b u v (marked_spelled false u (s b) spelled)));
  }

  over_by : (b : Bool) (ts : List Token) → next_is test ts ≡ b → IsRefused one_over g ts (over b ts)
  over_by true ts there = over_refused ts there
  over_by false ts there = other_refused ts there

  pub over_limit : (below : Bool) (ts : List Token) → below ≡ false → IsRefused (λ a. marked below (s a)) g ts (over (next_is test ts) ts)
  over_limit below ts e = subst (λ (b : Bool). IsRefused (λ a. marked b (s a)) g ts (over (next_is test ts) ts)) (sym e) (over_by (next_is test ts) ts refl)
