-- Parameters.
use Rattle.std.proofs.Common.{◌≡◌, Bool, true, false, List, [], ◌++◌, refl, ◌∙◌}
use Rattle.fzn_lexer.specs.declared.token.Kind.{Kind}
use Rattle.fzn_lexer.specs.declared.token.Position.{Position}
use Rattle.fzn_lexer.specs.declared.token.Token.{Token}
use Rattle.fzn_lexer.specs.Kinds.{is_symbol}
use Rattle.fzn_lexer.specs.declared.token.Kind.TheVariants as k
use Rattle.fzn_lexer.specs.declared.token.Symbol.TheVariants as s
use Rattle.fzn_tree.specs.declared.tree.Literal.{Literal}
use Rattle.fzn_tree.specs.declared.tree.ParamBase.{ParamBase}
use Rattle.fzn_tree.specs.declared.tree.ParamValue.{ParamValue}
use Rattle.fzn_tree.specs.Piece.{AreSpelled, sign_piece, piece_at}
use Rattle.fzn_tree.specs.declared.tree.ParamBase.TheVariants as param_bases
use Rattle.fzn_tree.specs.declared.tree.ParamValue.TheVariants as param_values
use Rattle.fzn_tree.specs.Grammar as G
use Rattle.fzn_parser.specs.declared.declarations.ParamRest.{ParamRest}
use Rattle.fzn_parser.specs.Declarations.{param_rest}
use Rattle.fzn_parser.specs.Reads.{next_is, SameNext, Stops}
use Rattle.fzn_parser.specs.GoesOn.{never, goes_further, goes_on}
use Rattle.fzn_parser.specs.Taken.{is}
use Rattle.fzn_parser.proofs.NextLaws.{next_kind, next_split}
use Rattle.fzn_parser.proofs.TokenLaws.{some_position}
use Rattle.fzn_parser.proofs.Onward.{last, part, IsForm, form}
use Rattle.fzn_parser.proofs.ListLaws.{closed, closed_last}
use Rattle.fzn_parser.proofs.FormLaws.{clash, clash', some_name, word, last_word, placed_word, last_placed, named}
use Rattle.fzn_parser.proofs.LiteralLaws.{literal_next}
use Rattle.fzn_parser.proofs.ValueLaws.{some_literal}

module _ (ts : List Token) where
  pub base_is_bool : next_is (is s.Bool) ts ≡ true → IsForm G.param_base never ts (last_placed s.Bool) (λ at. param_bases.Bool at)
  base_is_bool there = form (λ at. param_bases.Bool at) (λ at. refl) onto (closed_last never)
    where
      onto : (x : ParamBase) (u v : List Token) → AreSpelled u (G.param_base x) → Stops never v → SameNext (u ++ v) ts → (c : Position) × (param_bases.Bool c ≡ x)
      onto (param_bases.Bool at) u v spelled stops same = (at, refl)
      onto (param_bases.Int at) u v spelled stops same = absurd (clash (is s.Bool) ts (u ++ v) there same (next_kind (is_symbol s.Bool) (piece_at (k.Symbol s.Int) at) [] u v spelled))
      onto (param_bases.Set at) u v spelled stops same = absurd (clash (is s.Bool) ts (u ++ v) there same (next_kind (is_symbol s.Bool) (piece_at (k.Symbol s.Set) at) _ u v spelled))

  pub base_is_int : next_is (is s.Int) ts ≡ true → IsForm G.param_base never ts (last_placed s.Int) (λ at. param_bases.Int at)
  base_is_int there = form (λ at. param_bases.Int at) (λ at. refl) onto (closed_last never)
    where
      onto : (x : ParamBase) (u v : List Token) → AreSpelled u (G.param_base x) → Stops never v → SameNext (u ++ v) ts → (c : Position) × (param_bases.Int c ≡ x)
      onto (param_bases.Int at) u v spelled stops same = (at, refl)
      onto (param_bases.Bool at) u v spelled stops same = absurd (clash (is s.Int) ts (u ++ v) there same (next_kind (is_symbol s.Int) (piece_at (k.Symbol s.Bool) at) [] u v spelled))
      onto (param_bases.Set at) u v spelled stops same = absurd (clash (is s.Int) ts (u ++ v) there same (next_kind (is_symbol s.Int) (piece_at (k.Symbol s.Set) at) _ u v spelled))

  pub base_is_set : next_is (is s.Bool) ts ≡ false → next_is (is s.Int) ts ≡ false → IsForm G.param_base never ts (placed_word s.Set (word s.Of (last_word s.Int))) (λ p. param_bases.Set p.0)
  base_is_set not_bool not_int = form (λ p. param_bases.Set p.0) (λ p. refl) onto (closed _ _, (closed _ _, closed_last never))
    where
      onto : (x : ParamBase) (u v : List Token) → AreSpelled u (G.param_base x) → Stops never v → SameNext (u ++ v) ts → (c : Position × (Unit {0} × Unit {0})) × (param_bases.Set c.0 ≡ x)
      onto (param_bases.Set at) u v spelled stops same = ((at, (tt, tt)), refl)
      onto (param_bases.Bool at) u v spelled stops same = absurd (clash' (is s.Bool) ts (u ++ v) not_bool same (next_kind (is_symbol s.Bool) (piece_at (k.Symbol s.Bool) at) [] u v spelled))
      onto (param_bases.Int at) u v spelled stops same = absurd (clash' (is s.Int) ts (u ++ v) not_int same (next_kind (is_symbol s.Int) (piece_at (k.Symbol s.Int) at) [] u v spelled))

  pub value_literal : next_is (is s.OpenBracket) ts ≡ false → IsForm G.param_value goes_further ts (last G.literal goes_further some_literal) (λ x. param_values.Literal x)
  value_literal there = form (λ x. param_values.Literal x) (λ x. refl) onto (λ v stops. stops)
    where
      onto : (x : ParamValue) (u v : List Token) → AreSpelled u (G.param_value x) → Stops goes_further v → SameNext (u ++ v) ts → (c : Literal) × (param_values.Literal c ≡ x)
      onto (param_values.Literal x) u v spelled stops same = (x, refl)
      onto (param_values.Array at all) u v spelled stops same = absurd (clash' (is s.OpenBracket) ts (u ++ v) there same (next_kind (is_symbol s.OpenBracket) (piece_at (k.Symbol s.OpenBracket) at) _ u v spelled))

  pub value_array : next_is (is s.OpenBracket) ts ≡ true → IsForm G.param_value goes_further ts (placed_word s.OpenBracket (last (G.listed G.param_entry s.CloseBracket) never [])) (λ p. param_values.Array p.0 p.1)
  value_array there = form (λ p. param_values.Array p.0 p.1) (λ p. refl) onto (closed _ _, closed_last goes_further)
    where
      onto : (x : ParamValue) (u v : List Token) → AreSpelled u (G.param_value x) → Stops goes_further v → SameNext (u ++ v) ts → (c : Position × List Literal) × (param_values.Array c.0 c.1 ≡ x)
      onto (param_values.Array at all) u v spelled stops same = ((at, all), refl)
      onto (param_values.Literal x) u v spelled stops same = absurd (clash (is s.OpenBracket) ts (u ++ v) there same (literal_next (is_symbol s.OpenBracket) false refl refl refl (λ z. refl) x u v spelled))

pub some_param_rest : ParamRest
some_param_rest = record { base = param_bases.Bool some_position; name = some_name; value = param_values.Literal some_literal }

pub param_rest_begun : (ts : List Token) → IsForm param_rest never ts (part G.param_base never (param_bases.Bool some_position) (word s.Colon (named (word s.Equals (part G.param_value goes_further (param_values.Literal some_literal) (last_word s.Semicolon)))))) (λ p. record { base = p.0; name = p.1.1.0; value = p.1.1.1.1.0 })
param_rest_begun ts =
    form (λ p. record { base = p.0; name = p.1.1.0; value = p.1.1.1.1.0 }) (λ p. refl) (λ x u v spelled stops same. ((x.base, (tt, (x.name, (tt, (x.value, tt))))), refl))
    (closed _ _, (closed _ _, (closed _ _, (closed _ _, (λ b u v spelled stops. next_kind goes_on (sign_piece s.Semicolon) [] u v spelled, closed_last never)))))

param_base_next : (f : Kind → Bool) (b : Bool) → f (k.Symbol s.Bool) ≡ b → f (k.Symbol s.Int) ≡ b → f (k.Symbol s.Set) ≡ b → (x : ParamBase) (u v : List Token) → AreSpelled u (G.param_base x) → next_is (λ t. f t.kind) (u ++ v) ≡ b
param_base_next f b p i q (param_bases.Bool at) u v spelled = next_kind f (piece_at (k.Symbol s.Bool) at) [] u v spelled ∙ p
param_base_next f b p i q (param_bases.Int at) u v spelled = next_kind f (piece_at (k.Symbol s.Int) at) [] u v spelled ∙ i
param_base_next f b p i q (param_bases.Set at) u v spelled = next_kind f (piece_at (k.Symbol s.Set) at) _ u v spelled ∙ q

pub param_rest_next : (f : Kind → Bool) (b : Bool) → f (k.Symbol s.Bool) ≡ b → f (k.Symbol s.Int) ≡ b → f (k.Symbol s.Set) ≡ b → (p : ParamRest) (u v : List Token) → AreSpelled u (param_rest p) → next_is (λ t. f t.kind) (u ++ v) ≡ b
param_rest_next f b p i q x u v spelled = next_split (λ t. f t.kind) b (G.param_base x.base) _ u v (λ w z done. param_base_next f b p i q x.base w z done) spelled
