-- Tests of the next token.
use Rattle.std.proofs.Common.{◌≡◌, Bool, true, false, List, [], ◌∷◌, ◌++◌, refl, sym, ap, ◌∙◌, append_assoc, rules}
use Rattle.std.specs.Prelude.{◌||◌}
use denote.Enum.Bare.{same_true, true_same}
use Rattle.fzn_lexer.specs.contracts.token.Symbol.{the_type}
use Rattle.fzn_lexer.specs.declared.token.Kind.{Kind}
use Rattle.fzn_lexer.specs.declared.token.Symbol.{Symbol}
use Rattle.fzn_lexer.specs.declared.token.Token.{Token}
use Rattle.fzn_lexer.specs.Kinds.{is_symbol}
use Rattle.fzn_lexer.specs.declared.token.Kind.TheVariants as k
use Rattle.fzn_lexer.specs.declared.token.Symbol.TheVariants as s
use Rattle.fzn_tree.specs.Piece.{Piece, AreSpelled}
use Rattle.fzn_parser.specs.Reads.{next_is, Stops}
use Rattle.fzn_parser.proofs.SpelledLaws.{AreSpelled-split}
use Rattle.fzn_parser.specs.GoesOn.{never, goes_on, goes_further}
use Rattle.fzn_parser.specs.Taken as R

-- ---- tests of the next token

pub is_symbol-true : (s : Symbol) (kind : Kind) → is_symbol s kind ≡ true → kind ≡ k.Symbol s
is_symbol-true s (k.Symbol t) e = ap k.Symbol (same_true the_type (search rules) t s e)
is_symbol-true s (k.Name text) e = absurd cc
is_symbol-true s (k.Int value) e = absurd cc
is_symbol-true s (k.Text text) e = absurd cc

pub is_symbol-same : (s : Symbol) → is_symbol s (k.Symbol s) ≡ true
is_symbol-same s = true_same the_type s s refl

abbrev pub of_kind : (Kind → Bool) → Token → Bool
of_kind f t = f t.kind

-- what stands first decides a test of the kind
pub next_kind : (f : Kind → Bool) (p : Piece) (ps : List Piece) (u v : List Token) → AreSpelled u (p ∷ ps) → next_is (of_kind f) (u ++ v) ≡ f p.kind
next_kind f p ps [] v spelled = absurd spelled
next_kind f p ps (t ∷ u) v spelled = ap f spelled.0.0

pub stops_never : (ts : List Token) → Stops never ts
stops_never [] = refl
stops_never (t ∷ ts) = refl

-- ---- what may go on a phrase whose end does not show

or_false : (a b : Bool) → (a || b) ≡ false → (a ≡ false) × (b ≡ false)
or_false true b e = absurd cc
or_false false b e = (refl, e)

none_of : (a b c : Bool) → (a || b || c) ≡ false → (a ≡ false) × (b ≡ false) × (c ≡ false)
none_of a b c e = let f = or_false (a || b) c e in let g = or_false a b f.0 in (g.0, g.1, f.1)

pub no_dots : (v : List Token) → Stops goes_further v → next_is (R.is s.Dots) v ≡ false
no_dots [] e = refl
no_dots (t ∷ v) e = (none_of (is_symbol s.Dots t.kind) (is_symbol s.OpenParen t.kind) (is_symbol s.Colons t.kind) e).0

pub no_paren : (v : List Token) → Stops goes_further v → next_is (R.is s.OpenParen) v ≡ false
no_paren [] e = refl
no_paren (t ∷ v) e = (none_of (is_symbol s.Dots t.kind) (is_symbol s.OpenParen t.kind) (is_symbol s.Colons t.kind) e).1

pub no_colons : (v : List Token) → Stops goes_further v → next_is (R.is s.Colons) v ≡ false
no_colons [] e = refl
no_colons (t ∷ v) e = (none_of (is_symbol s.Dots t.kind) (is_symbol s.OpenParen t.kind) (is_symbol s.Colons t.kind) e).2

-- a sign that does not go on a phrase
pub ends_further : (x : Symbol) → goes_on (k.Symbol x) ≡ false → (v : List Token) → next_is (R.is x) v ≡ true → Stops goes_further v
ends_further x apart [] there = refl
ends_further x apart (t ∷ v) there = ap goes_on (is_symbol-true x t.kind there) ∙ apart

pub next_split : (test : Token → Bool) (b : Bool) (ps qs : List Piece) (u v : List Token) → ((w z : List Token) → AreSpelled w ps → next_is test (w ++ z) ≡ b) → AreSpelled u (ps ++ qs) → next_is test (u ++ v) ≡ b
next_split test b ps qs u v first spelled =
    let d = AreSpelled-split u ps qs spelled in
    let same : d.left ++ (d.right ++ v) ≡ u ++ v = sym (append_assoc d.left d.right v) ∙ ap (λ (z : List Token). z ++ v) (sym d.parts) in
    ap (next_is test) (sym same) ∙ first d.left (d.right ++ v) d.on_left
