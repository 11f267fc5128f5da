-- Sets of numbers, and literals.
use Rattle.std.proofs.Common.{◌≡◌, Bool, true, false, List, [], ◌∷◌, ◌++◌, refl, ◌∙◌, inl, inr, ◌⊎◌}
use Rattle.std.specs.Prelude.{ℤ, pos, nat_lt, ◌||◌, IfSome}
use Rattle.fzn_lexer.specs.declared.token.Kind.{Kind}
use Rattle.fzn_lexer.specs.declared.token.Position.{Position}
use Rattle.fzn_lexer.specs.declared.token.Symbol.{Symbol}
use Rattle.fzn_lexer.specs.declared.token.Token.{Token}
use Rattle.fzn_lexer.specs.Kinds.{is_symbol}
use Rattle.fzn_lexer.specs.declared.token.Kind.TheVariants as k
use Rattle.fzn_lexer.specs.declared.token.Symbol.TheVariants as s
use Rattle.fzn_tree.specs.declared.tree.Int.{Int}
use Rattle.fzn_tree.specs.declared.tree.Literal.{Literal}
use Rattle.fzn_tree.specs.declared.tree.Values.{Values}
use Rattle.fzn_tree.specs.Piece.{Piece, AreSpelled, sign, sign_piece, piece_at}
use Rattle.fzn_tree.specs.declared.tree.Literal.TheVariants as l
use Rattle.fzn_tree.specs.declared.tree.Values.TheVariants as values_are
use Rattle.fzn_tree.specs.Grammar as G
use Rattle.fzn_parser.specs.declared.cursor.Start.TheVariants as w
use Rattle.fzn_parser.specs.Reads.{next_is, SameNext, Stops}
use Rattle.fzn_parser.specs.GoesOn.{never, goes_further}
use Rattle.fzn_parser.specs.Begins.{begins, may_start, literal_signs}
use Rattle.fzn_parser.specs.Taken.{is}
use Rattle.fzn_parser.specs.Lists.{IsListable}
use Rattle.fzn_parser.proofs.NextLaws.{is_symbol-true, next_kind, stops_never, no_dots}
use Rattle.fzn_parser.proofs.TokenLaws.{number_piece}
use Rattle.fzn_parser.proofs.OneTokenLaws.{no_pieces}
use Rattle.fzn_parser.proofs.Onward.{last, part, IsForm, form}
use Rattle.fzn_parser.proofs.ListLaws.{closed, closed_last}
use Rattle.fzn_parser.proofs.FormLaws.{clash, clash', some_int, word, placed_word, last_placed, marked_next, IsTold}

-- ---- sets of numbers

number_next : (f : Kind → Bool) (z : ℤ) (u v : List Token) → AreSpelled u (G.number z) → next_is (λ t. f t.kind) (u ++ v) ≡ f (k.Int z)
number_next f z u v spelled = next_kind f (number_piece z) [] u v spelled

number_first : (kind : Kind) → may_start w.Int kind ≡ true → (z : ℤ) × (kind ≡ k.Int z)
number_first (k.Symbol x) e = absurd cc
number_first (k.Name n) e = absurd cc
number_first (k.Int z) e = (z, refl)
number_first (k.Text n) e = absurd cc

pub number_told : IsTold (begins w.Int) G.number
number_told = record {
  some = pos 0;
  starts = λ z u v spelled. number_next (may_start w.Int) z u v spelled;
  first = λ t e. let n = number_first t.kind e in (n.0, number_piece n.0, [], refl, (n.1, tt));
}

pub values_listed : IsListable G.listed_value never s.CloseBrace
values_listed = record {
  some = pos 0;
  not_end = λ e. cc;
  not_comma = λ e. cc;
  comma = λ v e. stops_never v;
  ends = λ v e. stops_never v;
  first = λ z u v spelled. marked_next (is_symbol s.CloseBrace) false (nat_lt 0 G.most_listed) (G.number z) u v (λ w x done. number_next (is_symbol s.CloseBrace) z w x done) spelled;
}

abbrev pub listed_values : List ℤ → List Piece
listed_values all = G.listed G.listed_value s.CloseBrace all

pub values_next : (f : Kind → Bool) (b : Bool) → f (k.Symbol s.OpenBrace) ≡ b → ((z : ℤ) → f (k.Int z) ≡ b) → (x : Values) (u v : List Token) → AreSpelled u (G.values x) → next_is (λ t. f t.kind) (u ++ v) ≡ b
values_next f b o i (values_are.Listed all) u v spelled = next_kind f (sign_piece s.OpenBrace) _ u v spelled ∙ o
values_next f b o i (values_are.Range r) u v spelled = next_kind f (piece_at (k.Int r.low.value) r.low.position) _ u v spelled ∙ i r.low.value

module _ (ts : List Token) where
  pub values_braced : next_is (is s.OpenBrace) ts ≡ true → IsForm G.values never ts (word s.OpenBrace (last listed_values never [])) (λ p. values_are.Listed p.1)
  values_braced there = form (λ p. values_are.Listed p.1) (λ p. refl) onto (closed _ _, closed_last never)
    where
      onto : (x : Values) (u v : List Token) → AreSpelled u (G.values x) → Stops never v → SameNext (u ++ v) ts → (c : Unit {0} × List ℤ) × (values_are.Listed c.1 ≡ x)
      onto (values_are.Listed all) u v spelled stops same = ((tt, all), refl)
      onto (values_are.Range r) u v spelled stops same = absurd (clash (is s.OpenBrace) ts (u ++ v) there same (next_kind (is_symbol s.OpenBrace) (piece_at (k.Int r.low.value) r.low.position) _ u v spelled))

  pub values_range : next_is (is s.OpenBrace) ts ≡ false → IsForm G.values never ts (part G.int never some_int (word s.Dots (last G.number never (pos 0)))) (λ p. values_are.Range (record { low = p.0; high = p.1.1 }))
  values_range there = form (λ p. values_are.Range (record { low = p.0; high = p.1.1 })) (λ p. refl) onto (closed _ _, (closed _ _, closed_last never))
    where
      onto : (x : Values) (u v : List Token) → AreSpelled u (G.values x) → Stops never v → SameNext (u ++ v) ts → (c : Int × (Unit {0} × ℤ)) × (values_are.Range (record { low = c.0; high = c.1.1 }) ≡ x)
      onto (values_are.Listed all) u v spelled stops same = absurd (clash' (is s.OpenBrace) ts (u ++ v) there same (next_kind (is_symbol s.OpenBrace) (sign_piece s.OpenBrace) _ u v spelled))
      onto (values_are.Range r) u v spelled stops same = ((r.low, (tt, r.high)), refl)

-- ---- literals

-- behind a number
abbrev Tail : Type 0
Tail = (Unit {0} × ℤ) ⊎ Unit {0}

abbrev pub tail : Tail → List Piece
tail (inl p) = sign s.Dots ++ G.number p.1
tail (inr u) = []

abbrev with_range : Unit {0} × ℤ → Tail
with_range p = inl p

abbrev alone : Unit {0} → Tail
alone n = inr n

abbrev pub numeric : Int × Tail → Literal
numeric (low, inl p) = l.Range (record { low = low; high = p.1 })
numeric (low, inr u) = l.Int low

numeric_same : (p : Int × Tail) → G.literal (numeric p) ≡ G.int p.0 ++ tail p.1
numeric_same (low, inl p) = refl
numeric_same (low, inr u) = refl

module _ (ts : List Token) where
  pub literal_true : next_is (is s.True) ts ≡ true → IsForm G.literal goes_further ts (last_placed s.True) (λ at. l.Bool true at)
  literal_true there = form (λ at. l.Bool true at) (λ at. refl) onto (closed_last goes_further)
    where
      onto : (x : Literal) (u v : List Token) → AreSpelled u (G.literal x) → Stops goes_further v → SameNext (u ++ v) ts → (c : Position) × (l.Bool true c ≡ x)
      onto (l.Bool true at) u v spelled stops same = (at, refl)
      onto (l.Bool false at) u v spelled stops same = absurd (clash (is s.True) ts (u ++ v) there same (next_kind (is_symbol s.True) (piece_at (k.Symbol s.False) at) [] u v spelled))
      onto (l.Int i) u v spelled stops same = absurd (clash (is s.True) ts (u ++ v) there same (next_kind (is_symbol s.True) (piece_at (k.Int i.value) i.position) [] u v spelled))
      onto (l.Range r) u v spelled stops same = absurd (clash (is s.True) ts (u ++ v) there same (next_kind (is_symbol s.True) (piece_at (k.Int r.low.value) r.low.position) _ u v spelled))
      onto (l.Set at all) u v spelled stops same = absurd (clash (is s.True) ts (u ++ v) there same (next_kind (is_symbol s.True) (piece_at (k.Symbol s.OpenBrace) at) _ u v spelled))

  pub literal_false : next_is (is s.False) ts ≡ true → IsForm G.literal goes_further ts (last_placed s.False) (λ at. l.Bool false at)
  literal_false there = form (λ at. l.Bool false at) (λ at. refl) onto (closed_last goes_further)
    where
      onto : (x : Literal) (u v : List Token) → AreSpelled u (G.literal x) → Stops goes_further v → SameNext (u ++ v) ts → (c : Position) × (l.Bool false c ≡ x)
      onto (l.Bool false at) u v spelled stops same = (at, refl)
      onto (l.Bool true at) u v spelled stops same = absurd (clash (is s.False) ts (u ++ v) there same (next_kind (is_symbol s.False) (piece_at (k.Symbol s.True) at) [] u v spelled))
      onto (l.Int i) u v spelled stops same = absurd (clash (is s.False) ts (u ++ v) there same (next_kind (is_symbol s.False) (piece_at (k.Int i.value) i.position) [] u v spelled))
      onto (l.Range r) u v spelled stops same = absurd (clash (is s.False) ts (u ++ v) there same (next_kind (is_symbol s.False) (piece_at (k.Int r.low.value) r.low.position) _ u v spelled))
      onto (l.Set at all) u v spelled stops same = absurd (clash (is s.False) ts (u ++ v) there same (next_kind (is_symbol s.False) (piece_at (k.Symbol s.OpenBrace) at) _ u v spelled))

  pub literal_set : next_is (is s.OpenBrace) ts ≡ true → IsForm G.literal goes_further ts (placed_word s.OpenBrace (last listed_values never [])) (λ p. l.Set p.0 p.1)
  literal_set there = form (λ p. l.Set p.0 p.1) (λ p. refl) onto (closed _ _, closed_last goes_further)
    where
      onto : (x : Literal) (u v : List Token) → AreSpelled u (G.literal x) → Stops goes_further v → SameNext (u ++ v) ts → (c : Position × List ℤ) × (l.Set c.0 c.1 ≡ x)
      onto (l.Set at all) u v spelled stops same = ((at, all), refl)
      onto (l.Bool true at) u v spelled stops same = absurd (clash (is s.OpenBrace) ts (u ++ v) there same (next_kind (is_symbol s.OpenBrace) (piece_at (k.Symbol s.True) at) [] u v spelled))
      onto (l.Bool false at) u v spelled stops same = absurd (clash (is s.OpenBrace) ts (u ++ v) there same (next_kind (is_symbol s.OpenBrace) (piece_at (k.Symbol s.False) at) [] u v spelled))
      onto (l.Int i) u v spelled stops same = absurd (clash (is s.OpenBrace) ts (u ++ v) there same (next_kind (is_symbol s.OpenBrace) (piece_at (k.Int i.value) i.position) [] u v spelled))
      onto (l.Range r) u v spelled stops same = absurd (clash (is s.OpenBrace) ts (u ++ v) there same (next_kind (is_symbol s.OpenBrace) (piece_at (k.Int r.low.value) r.low.position) _ u v spelled))

  pub literal_number : next_is (is s.True) ts ≡ false → next_is (is s.False) ts ≡ false → next_is (is s.OpenBrace) ts ≡ false → IsForm G.literal goes_further ts (part G.int never some_int (last tail goes_further (inr tt))) numeric
  literal_number not_true not_false not_brace = form numeric numeric_same onto (closed _ _, λ v stops. stops)
    where
      onto : (x : Literal) (u v : List Token) → AreSpelled u (G.literal x) → Stops goes_further v → SameNext (u ++ v) ts → (c : Int × Tail) × (numeric c ≡ x)
      onto (l.Int i) u v spelled stops same = ((i, inr tt), refl)
      onto (l.Range r) u v spelled stops same = ((r.low, inl (tt, r.high)), refl)
      onto (l.Bool true at) u v spelled stops same = absurd (clash' (is s.True) ts (u ++ v) not_true same (next_kind (is_symbol s.True) (piece_at (k.Symbol s.True) at) [] u v spelled))
      onto (l.Bool false at) u v spelled stops same = absurd (clash' (is s.False) ts (u ++ v) not_false same (next_kind (is_symbol s.False) (piece_at (k.Symbol s.False) at) [] u v spelled))
      onto (l.Set at all) u v spelled stops same = absurd (clash' (is s.OpenBrace) ts (u ++ v) not_brace same (next_kind (is_symbol s.OpenBrace) (piece_at (k.Symbol s.OpenBrace) at) _ u v spelled))

  pub tail_range : next_is (is s.Dots) ts ≡ true → IsForm tail goes_further ts (word s.Dots (last G.number never (pos 0))) with_range
  tail_range there = form with_range (λ p. refl) onto (closed _ _, closed_last goes_further)
    where
      onto : (x : Tail) (u v : List Token) → AreSpelled u (tail x) → Stops goes_further v → SameNext (u ++ v) ts → (c : Unit {0} × ℤ) × (◌≡◌ {A = Tail} (inl c) x)
      onto (inl p) u v spelled stops same = (p, refl)
      onto (inr n) [] v spelled stops same = absurd (clash (is s.Dots) ts v there same (no_dots v stops))
      onto (inr n) (y ∷ u) v spelled stops same = absurd spelled

  pub tail_none : next_is (is s.Dots) ts ≡ false → IsForm tail goes_further ts (last no_pieces goes_further tt) alone
  tail_none there = form alone (λ n. refl) onto (λ v stops. stops)
    where
      onto : (x : Tail) (u v : List Token) → AreSpelled u (tail x) → Stops goes_further v → SameNext (u ++ v) ts → (c : Unit {0}) × (◌≡◌ {A = Tail} (inr c) x)
      onto (inr n) u v spelled stops same = (n, refl)
      onto (inl p) u v spelled stops same = absurd (clash' (is s.Dots) ts (u ++ v) there same (next_kind (is_symbol s.Dots) (sign_piece s.Dots) _ u v spelled))

-- a test of the kind that no literal's first token passes, or each does
pub literal_next : (f : Kind → Bool) (b : Bool) → f (k.Symbol s.True) ≡ b → f (k.Symbol s.False) ≡ b → f (k.Symbol s.OpenBrace) ≡ b → ((z : ℤ) → f (k.Int z) ≡ b) → (x : Literal) (u v : List Token) → AreSpelled u (G.literal x) → next_is (λ t. f t.kind) (u ++ v) ≡ b
literal_next f b t e o i (l.Bool true at) u v spelled = next_kind f (piece_at (k.Symbol s.True) at) [] u v spelled ∙ t
literal_next f b t e o i (l.Bool false at) u v spelled = next_kind f (piece_at (k.Symbol s.False) at) [] u v spelled ∙ e
literal_next f b t e o i (l.Int n) u v spelled = next_kind f (piece_at (k.Int n.value) n.position) [] u v spelled ∙ i n.value
literal_next f b t e o i (l.Range r) u v spelled = next_kind f (piece_at (k.Int r.low.value) r.low.position) _ u v spelled ∙ i r.low.value
literal_next f b t e o i (l.Set at all) u v spelled = next_kind f (piece_at (k.Symbol s.OpenBrace) at) _ u v spelled ∙ o

-- a value that a token of this kind at this position begins
abbrev pub FirstAt : {A : Type 0} → (A → List Piece) → Kind → Position → Type 0
FirstAt {A} spell kind position = (x : A) × (p : Piece) × (ps : List Piece) × (spell x ≡ p ∷ ps) × ((kind ≡ p.kind) × IfSome p.position (λ at. position ≡ at))

sign_first : (x : Symbol) (position : Position) (a b c : Bool) → is_symbol s.True (k.Symbol x) ≡ a → is_symbol s.False (k.Symbol x) ≡ b → is_symbol s.OpenBrace (k.Symbol x) ≡ c → (a || b || c) ≡ true → FirstAt G.literal (k.Symbol x) position
sign_first x position true b c t f o e = (l.Bool true position, _, _, refl, (is_symbol-true s.True (k.Symbol x) t, refl))
sign_first x position false true c t f o e = (l.Bool false position, _, _, refl, (is_symbol-true s.False (k.Symbol x) f, refl))
sign_first x position false false true t f o e = (l.Set position [], _, _, refl, (is_symbol-true s.OpenBrace (k.Symbol x) o, refl))
sign_first x position false false false t f o e = absurd cc

pub literal_at : (x : Symbol) (position : Position) → literal_signs x ≡ true → FirstAt G.literal (k.Symbol x) position
literal_at x position e = sign_first x position (is_symbol s.True (k.Symbol x)) (is_symbol s.False (k.Symbol x)) (is_symbol s.OpenBrace (k.Symbol x)) refl refl refl e

pub literal_first : (kind : Kind) (position : Position) → may_start w.Literal kind ≡ true → FirstAt G.literal kind position
literal_first (k.Symbol x) position e = literal_at x position e
literal_first (k.Name n) position e = absurd cc
literal_first (k.Int z) position e = (l.Int (record { value = z; position = position }), _, _, refl, (refl, refl))
literal_first (k.Text n) position e = absurd cc
