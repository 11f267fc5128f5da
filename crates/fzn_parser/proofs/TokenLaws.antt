-- What is made of one token.
use Rattle.std.proofs.Common.{◌≡◌, ◌≢◌, ℕ, Bool, true, false, cond, List, [], ◌∷◌, Some, None, refl, sym, ap, subst, ◌∙◌, ◌<◌, ◌≤◌, arith}
use Rattle.std.specs.Prelude.{ℤ, pos, negsuc, nat_le}
use Rattle.std.proofs.lemmas.Bool.{le-leb, lt-leb, le-ltb}
use lib.IntN.{nat_abs}
use lib.Signed.{lt_z}
use Rattle.fzn_lexer.specs.declared.token.Kind.{Kind}
use Rattle.fzn_lexer.specs.declared.token.Position.{Position}
use Rattle.fzn_lexer.specs.declared.token.Symbol.{Symbol}
use Rattle.fzn_lexer.specs.declared.token.Token.{Token}
use Rattle.fzn_lexer.specs.Kinds.{is_symbol}
use Rattle.fzn_lexer.specs.declared.token.Kind.TheVariants as k
use Rattle.fzn_lexer.specs.declared.token.Symbol.TheVariants as s
use Rattle.fzn_tree.specs.declared.tree.Int.{Int}
use Rattle.fzn_tree.specs.declared.tree.Name.{Name}
use Rattle.fzn_lexer.specs.declared.fault.FaultKind.TheVariants.{Syntax, TooMany}
use Rattle.fzn_tree.specs.Piece.{Piece, FitsPiece, sign_piece, piece_at}
use Rattle.fzn_tree.specs.Grammar as G
use Rattle.fzn_parser.specs.declared.cursor.Refusal.{Refusal}
use Rattle.fzn_parser.specs.declared.cursor.Start.TheVariants as w
use Rattle.fzn_parser.specs.Begins.{may_start, begins}
use Rattle.fzn_parser.specs.Reads.{SameNext, IsRead, IsRefused}
use Rattle.fzn_parser.specs.Taken.{IsTaken, IsUnexpected, text_in, int_in, refusal, one}
use Rattle.fzn_parser.proofs.SpelledLaws.{next_is-same}
use Rattle.fzn_parser.proofs.NextLaws.{is_symbol-true, is_symbol-same}
use Rattle.fzn_parser.proofs.OneTokenLaws.{IsToken, single, one_read, one_refused, one_over}

pub some_position : Position
some_position = record { line = 1; column = 1 }

pub symbol_token : (x : Symbol) → x ≢ s.End → IsToken (w.Sign x) (λ p. tt) (λ (u : Unit {0}). sign_piece x)
symbol_token x apart = record {
  some = tt;
  sound = λ t e. let is = is_symbol-true x t.kind e in ((is, tt), λ ends. apart cc);
  complete = λ t a fits. (ap (is_symbol x) fits.0 ∙ is_symbol-same x, refl);
  within = λ a. refl;
}

pub position_token : (x : Symbol) → x ≢ s.End → IsToken (w.Sign x) (λ p. p.1) (λ at. piece_at (k.Symbol x) at)
position_token x apart = record {
  some = some_position;
  sound = λ t e. let is = is_symbol-true x t.kind e in ((is, refl), λ ends. apart cc);
  complete = λ t a fits. (ap (is_symbol x) fits.0 ∙ is_symbol-same x, fits.1);
  within = λ a. refl;
}

a_name : (kind : Kind) → may_start w.Name kind ≡ true → kind ≡ k.Name (text_in kind)
a_name (k.Symbol s) e = absurd cc
a_name (k.Name text) e = refl
a_name (k.Int value) e = absurd cc
a_name (k.Text text) e = absurd cc

abbrev name_of : Kind × Position → Name
name_of p = record { text = text_in p.0; position = p.1 }

pub name_token : IsToken w.Name name_of (λ n. piece_at (k.Name n.text) n.position)
name_token = record {
  some = record { text = 97 ∷ []; position = some_position };
  sound = λ t e. let is = a_name t.kind e in ((is, refl), λ ends. cc);
  complete = λ t n fits. (ap (may_start w.Name) fits.0, ap (λ (x : Kind). name_of (x, t.span.position)) fits.0 ∙ ap (λ (x : Position). name_of (k.Name n.text, x)) fits.1);
  within = λ a. refl;
}

a_text : (kind : Kind) → may_start w.Text kind ≡ true → kind ≡ k.Text (text_in kind)
a_text (k.Symbol s) e = absurd cc
a_text (k.Name text) e = absurd cc
a_text (k.Int value) e = absurd cc
a_text (k.Text text) e = refl

abbrev text_of : Kind × Position → List ℕ × Position
text_of p = (text_in p.0, p.1)

pub text_token : IsToken w.Text text_of (λ n. piece_at (k.Text n.0) n.1)
text_token = record {
  some = ([], some_position);
  sound = λ t e. let is = a_text t.kind e in ((is, refl), λ ends. cc);
  complete = λ t n fits. (ap (may_start w.Text) fits.0, ap (λ (x : Kind). text_of (x, t.span.position)) fits.0 ∙ ap (λ (x : Position). text_of (k.Text n.0, x)) fits.1);
  within = λ a. refl;
}

-- ---- numbers

pub a_number : (kind : Kind) → may_start w.Int kind ≡ true → kind ≡ k.Int (int_in kind)
a_number (k.Symbol s) e = absurd cc
a_number (k.Name text) e = absurd cc
a_number (k.Int value) e = refl
a_number (k.Text text) e = absurd cc

abbrev int_of : Kind × Position → Int
int_of p = record { value = int_in p.0; position = p.1 }

pub int_token : IsToken w.Int int_of (λ n. piece_at (k.Int n.value) n.position)
int_token = record {
  some = record { value = pos 0; position = some_position };
  sound = λ t e. let is = a_number t.kind e in ((is, refl), λ ends. cc);
  complete = λ t n fits. (ap (may_start w.Int) fits.0, ap (λ (x : Kind). int_of (x, t.span.position)) fits.0 ∙ ap (λ (x : Position). int_of (k.Int n.value, x)) fits.1);
  within = λ a. refl;
}

abbrev pub number_piece : ℤ → Piece
number_piece z = record { kind = k.Int z; position = None; past = None }

pub number_token : IsToken w.Int (λ p. int_in p.0) number_piece
number_token = record {
  some = pos 0;
  sound = λ t e. let is = a_number t.kind e in ((is, tt), λ ends. cc);
  complete = λ t z fits. (ap (may_start w.Int) fits.0, ap int_in fits.0);
  within = λ a. refl;
}

-- ---- what is made of the same

pub same_name : (a b : List ℕ) (p q : Position) → a ≡ b → p ≡ q → ◌≡◌ {A = Name} (record { text = a; position = p }) (record { text = b; position = q })
same_name a b p q e f = cc

pub same_text : (a b : List ℕ) (p q : Position) → a ≡ b → p ≡ q → ◌≡◌ {A = List ℕ × Position} (a, p) (b, q)
same_text a b p q e f = cc

pub same_int : (a b : ℤ) (p q : Position) → a ≡ b → p ≡ q → ◌≡◌ {A = Int} (record { value = a; position = p }) (record { value = b; position = q })
same_int a b p q e f = cc

-- ---- the number 1, and the size of an array

module _ (g : Token → Bool) (ts : List Token) (taken : Kind × Position) (rest : List Token) (p : IsTaken w.Int ts taken rest) where
  is_int : p.token.kind ≡ k.Int (int_in taken.0)
  is_int = a_number p.token.kind p.wanted ∙ ap (λ (z : Kind). k.Int (int_in z)) (sym p.kind)

  taken_read : {A : Type 0} (piece : A → Piece) (a : A) → (piece a).kind ≡ k.Int (int_in taken.0) → (piece a).position ≡ None → (piece a).past ≡ None → ((b : A) → FitsPiece p.token (piece b) → b ≡ a) → IsRead (single piece) g ts a rest
  taken_read piece a kind position within one =
      subst (λ (z : List Token). IsRead (single piece) g z a rest) (sym p.parts)
      (one_read piece g p.token rest a ((is_int ∙ sym kind, rw position tt), λ ends. let i = is_int in cc) within one)

  taken_other : {A : Type 0} (piece : A → Piece) (some : A) → ((b : A) → FitsPiece p.token (piece b) → ⊥) → IsRefused (single piece) g ts (refusal Syntax ts)
  taken_other piece some none = one_refused piece g some ts (λ b y ys fits next. none b (subst (λ (z : Token). FitsPiece z (piece b)) (subst (λ (z : List Token). SameNext (y ∷ ys) z) p.parts next) fits))

  pub one_taken : int_in taken.0 ≡ pos 1 → IsRead one g ts tt rest
  one_taken e = taken_read (λ u. number_piece (pos 1)) tt (ap k.Int (sym e)) refl refl (λ b fits. refl)

  pub not_one : (int_in taken.0 ≡ pos 1 → ⊥) → IsRefused one g ts (refusal Syntax ts)
  not_one other = taken_other (λ u. number_piece (pos 1)) tt (λ b fits. other (ap int_in (sym is_int ∙ fits.0)))

  abbrev size_piece : ℕ → Piece
  size_piece n = record { kind = k.Int (pos n); position = None; past = cond (nat_le n G.most) None (Some TooMany) }

  one_size : (n : ℕ) → int_in taken.0 ≡ pos n → (b : ℕ) → FitsPiece p.token (size_piece b) → b ≡ n
  one_size n e b fits = let i = is_int in let j = fits.0 in cc

  pub size_taken : (n : ℕ) → int_in taken.0 ≡ pos n → nat_le n G.most ≡ true → IsRead G.array_length g ts n rest
  size_taken n e small = taken_read size_piece n (ap k.Int (sym e)) refl (rw small refl) (one_size n e)

  pub size_over : (n : ℕ) → int_in taken.0 ≡ pos n → nat_le n G.most ≡ false → IsRefused G.array_length g ts (refusal TooMany ts)
  size_over n e large =
      subst (λ (z : List Token). IsRefused G.array_length g z (refusal TooMany z)) (sym p.parts)
      (one_over size_piece g TooMany n p.token rest (is_int ∙ ap k.Int e, tt) (rw large refl) (one_size n e))

  pub size_below : (n : ℕ) → int_in taken.0 ≡ negsuc n → IsRefused G.array_length g ts (refusal Syntax ts)
  size_below n e = taken_other size_piece 0 (λ b fits. let i = is_int in let j = fits.0 in cc)

  -- the same for a number with its sign
  pub size_negative : (v : ℤ) → int_in taken.0 ≡ v → lt_z v (pos 0) ≡ true → IsRefused G.array_length g ts (refusal Syntax ts)
  size_negative (pos n) e less = let none = le-ltb n 0 (omega arith) in absurd cc
  size_negative (negsuc n) e less = size_below n e

  pub size_large : (v : ℤ) → int_in taken.0 ≡ v → lt_z v (pos 0) ≡ false → G.most < nat_abs v → IsRefused G.array_length g ts (refusal TooMany ts)
  size_large (pos n) e less large = size_over n e (lt-leb n G.most large)
  size_large (negsuc n) e less large = absurd cc

  pub size_small : (v : ℤ) → int_in taken.0 ≡ v → lt_z v (pos 0) ≡ false → nat_abs v ≤ G.most → IsRead G.array_length g ts (nat_abs v) rest
  size_small (pos n) e less small = size_taken n e (le-leb n G.most small)
  size_small (negsuc n) e less small = absurd cc

module _ (g : Token → Bool) (ts : List Token) (e : Refusal) (p : IsUnexpected w.Int ts e) where
  none_taken : {A : Type 0} (piece : A → Piece) (some : A) → ((b : A) → (z : ℤ) × ((piece b).kind ≡ k.Int z)) → IsRefused (single piece) g ts e
  none_taken piece some int =
      subst (λ (z : Refusal). IsRefused (single piece) g ts z) (sym p.is)
      (one_refused piece g some ts (λ b y ys fits next. let same = next_is-same (begins w.Int) (y ∷ ys) ts next in let o = p.other in let c = ap (may_start w.Int) (fits.0 ∙ (int b).1) in cc))

  pub one_none : IsRefused one g ts e
  one_none = none_taken (λ (u : Unit {0}). number_piece (pos 1)) tt (λ b. (pos 1, refl))

  pub size_none : IsRefused G.array_length g ts e
  size_none = none_taken (λ n. record { kind = k.Int (pos n); position = None; past = cond (nat_le n G.most) None (Some TooMany) }) 0 (λ b. (pos b, refl))
