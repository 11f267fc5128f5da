-- Types, and the sizes of arrays.
use Rattle.std.proofs.Common.{◌≡◌, Bool, true, false, List, [], ◌++◌, Option, Some, None, refl, ◌∙◌}
use Rattle.std.specs.Prelude.{ℤ}
use Rattle.fzn_lexer.specs.declared.token.Kind.{Kind}
use Rattle.fzn_lexer.specs.declared.token.Position.{Position}
use Rattle.fzn_lexer.specs.declared.token.Token.{Token}
use Rattle.fzn_lexer.specs.Kinds.{is_symbol}
use Rattle.fzn_lexer.specs.declared.token.Kind.TheVariants as k
use Rattle.fzn_lexer.specs.declared.token.Symbol.TheVariants as s
use Rattle.fzn_tree.specs.declared.tree.Base.{Base}
use Rattle.fzn_tree.specs.declared.tree.Values.{Values}
use Rattle.fzn_tree.specs.Piece.{AreSpelled, sign_piece, piece_at}
use Rattle.fzn_tree.specs.declared.tree.Base.TheVariants as bases
use Rattle.fzn_tree.specs.declared.tree.Values.TheVariants as values_are
use Rattle.fzn_tree.specs.Grammar as G
use Rattle.fzn_parser.specs.Reads.{next_is, SameNext, Stops}
use Rattle.fzn_parser.specs.GoesOn.{never}
use Rattle.fzn_parser.specs.Taken.{is, one}
use Rattle.fzn_parser.proofs.NextLaws.{next_kind}
use Rattle.fzn_parser.proofs.Onward.{last, part, IsForm, form}
use Rattle.fzn_parser.proofs.ListLaws.{closed, closed_last}
use Rattle.fzn_parser.proofs.FormLaws.{clash, clash', word, last_word, placed_word, last_placed}
use Rattle.fzn_parser.proofs.LiteralLaws.{values_next}

pub some_values : Values
some_values = values_are.Listed []

abbrev of_values : Values → Option Values
of_values x = Some x

module _ (ts : List Token) where
  pub elements_any : next_is (is s.Int) ts ≡ true → IsForm G.elements never ts (last_word s.Int) (λ u. None)
  elements_any there = form (λ u. None) (λ u. refl) onto (closed_last never)
    where
      onto : (x : Option Values) (u v : List Token) → AreSpelled u (G.elements x) → Stops never v → SameNext (u ++ v) ts → (c : Unit {0}) × (None ≡ x)
      onto None u v spelled stops same = (tt, refl)
      onto (Some x) u v spelled stops same = absurd (clash (is s.Int) ts (u ++ v) there same (values_next (is_symbol s.Int) false refl (λ z. refl) x u v spelled))

  pub elements_of : next_is (is s.Int) ts ≡ false → IsForm G.elements never ts (last G.values never some_values) of_values
  elements_of there = form of_values (λ x. refl) onto (closed_last never)
    where
      onto : (x : Option Values) (u v : List Token) → AreSpelled u (G.elements x) → Stops never v → SameNext (u ++ v) ts → (c : Values) × (Some c ≡ x)
      onto (Some x) u v spelled stops same = (x, refl)
      onto None u v spelled stops same = absurd (clash' (is s.Int) ts (u ++ v) there same (next_kind (is_symbol s.Int) (sign_piece s.Int) [] u v spelled))

  pub base_bool : next_is (is s.Bool) ts ≡ true → IsForm G.base never ts (last_word s.Bool) (λ u. bases.Bool)
  base_bool there = form (λ u. bases.Bool) (λ u. refl) onto (closed_last never)
    where
      onto : (x : Base) (u v : List Token) → AreSpelled u (G.base x) → Stops never v → SameNext (u ++ v) ts → (c : Unit {0}) × (bases.Bool ≡ x)
      onto bases.Bool u v spelled stops same = (tt, refl)
      onto (bases.Int at) u v spelled stops same = absurd (clash (is s.Bool) ts (u ++ v) there same (next_kind (is_symbol s.Bool) (piece_at (k.Symbol s.Int) at) [] u v spelled))
      onto (bases.Set at x) u v spelled stops same = absurd (clash (is s.Bool) ts (u ++ v) there same (next_kind (is_symbol s.Bool) (piece_at (k.Symbol s.Set) at) _ u v spelled))
      onto (bases.Values x) u v spelled stops same = absurd (clash (is s.Bool) ts (u ++ v) there same (values_next (is_symbol s.Bool) false refl (λ z. refl) x u v spelled))

  pub base_int : next_is (is s.Int) ts ≡ true → IsForm G.base never ts (last_placed s.Int) (λ at. bases.Int at)
  base_int there = form (λ at. bases.Int at) (λ at. refl) onto (closed_last never)
    where
      onto : (x : Base) (u v : List Token) → AreSpelled u (G.base x) → Stops never v → SameNext (u ++ v) ts → (c : Position) × (bases.Int c ≡ x)
      onto (bases.Int at) u v spelled stops same = (at, refl)
      onto bases.Bool u v spelled stops same = absurd (clash (is s.Int) ts (u ++ v) there same (next_kind (is_symbol s.Int) (sign_piece s.Bool) [] u v spelled))
      onto (bases.Set at x) u v spelled stops same = absurd (clash (is s.Int) ts (u ++ v) there same (next_kind (is_symbol s.Int) (piece_at (k.Symbol s.Set) at) _ u v spelled))
      onto (bases.Values x) u v spelled stops same = absurd (clash (is s.Int) ts (u ++ v) there same (values_next (is_symbol s.Int) false refl (λ z. refl) x u v spelled))

  pub base_set : next_is (is s.Set) ts ≡ true → IsForm G.base never ts (placed_word s.Set (word s.Of (last G.elements never None))) (λ p. bases.Set p.0 p.1.1)
  base_set there = form (λ p. bases.Set p.0 p.1.1) (λ p. refl) onto (closed _ _, (closed _ _, closed_last never))
    where
      onto : (x : Base) (u v : List Token) → AreSpelled u (G.base x) → Stops never v → SameNext (u ++ v) ts → (c : Position × (Unit {0} × Option Values)) × (bases.Set c.0 c.1.1 ≡ x)
      onto (bases.Set at x) u v spelled stops same = ((at, (tt, x)), refl)
      onto bases.Bool u v spelled stops same = absurd (clash (is s.Set) ts (u ++ v) there same (next_kind (is_symbol s.Set) (sign_piece s.Bool) [] u v spelled))
      onto (bases.Int at) u v spelled stops same = absurd (clash (is s.Set) ts (u ++ v) there same (next_kind (is_symbol s.Set) (piece_at (k.Symbol s.Int) at) [] u v spelled))
      onto (bases.Values x) u v spelled stops same = absurd (clash (is s.Set) ts (u ++ v) there same (values_next (is_symbol s.Set) false refl (λ z. refl) x u v spelled))

  pub base_values : next_is (is s.Bool) ts ≡ false → next_is (is s.Int) ts ≡ false → next_is (is s.Set) ts ≡ false → IsForm G.base never ts (last G.values never some_values) (λ x. bases.Values x)
  base_values not_bool not_int not_set = form (λ x. bases.Values x) (λ x. refl) onto (closed_last never)
    where
      onto : (x : Base) (u v : List Token) → AreSpelled u (G.base x) → Stops never v → SameNext (u ++ v) ts → (c : Values) × (bases.Values c ≡ x)
      onto (bases.Values x) u v spelled stops same = (x, refl)
      onto bases.Bool u v spelled stops same = absurd (clash' (is s.Bool) ts (u ++ v) not_bool same (next_kind (is_symbol s.Bool) (sign_piece s.Bool) [] u v spelled))
      onto (bases.Int at) u v spelled stops same = absurd (clash' (is s.Int) ts (u ++ v) not_int same (next_kind (is_symbol s.Int) (piece_at (k.Symbol s.Int) at) [] u v spelled))
      onto (bases.Set at x) u v spelled stops same = absurd (clash' (is s.Set) ts (u ++ v) not_set same (next_kind (is_symbol s.Set) (piece_at (k.Symbol s.Set) at) _ u v spelled))

pub base_next : (f : Kind → Bool) (b : Bool) → f (k.Symbol s.Bool) ≡ b → f (k.Symbol s.Int) ≡ b → f (k.Symbol s.Set) ≡ b → f (k.Symbol s.OpenBrace) ≡ b → ((z : ℤ) → f (k.Int z) ≡ b) → (x : Base) (u v : List Token) → AreSpelled u (G.base x) → next_is (λ t. f t.kind) (u ++ v) ≡ b
base_next f b p i q o n bases.Bool u v spelled = next_kind f (sign_piece s.Bool) [] u v spelled ∙ p
base_next f b p i q o n (bases.Int at) u v spelled = next_kind f (piece_at (k.Symbol s.Int) at) [] u v spelled ∙ i
base_next f b p i q o n (bases.Set at x) u v spelled = next_kind f (piece_at (k.Symbol s.Set) at) _ u v spelled ∙ q
base_next f b p i q o n (bases.Values x) u v spelled = values_next f b o n x u v spelled

pub index_of : (ts : List Token) → IsForm G.index never ts (part one never tt (word s.Dots (last G.array_length never 0))) (λ p. p.1.1)
index_of ts = form (λ p. p.1.1) (λ p. refl) (λ n u v spelled stops same. ((tt, (tt, n)), refl)) (closed _ _, (closed _ _, closed_last never))

pub array_size : (ts : List Token) → IsForm G.array_of never ts (placed_word s.Array (word s.OpenBracket (part G.index never 0 (word s.CloseBracket (last_word s.Of))))) (λ p. record { position = p.0; count = p.1.1.0 })
array_size ts = form (λ p. record { position = p.0; count = p.1.1.0 }) (λ p. refl) (λ size u v spelled stops same. ((size.position, (tt, (size.count, (tt, tt)))), refl)) (closed _ _, (closed _ _, (closed _ _, (closed _ _, closed_last never))))
