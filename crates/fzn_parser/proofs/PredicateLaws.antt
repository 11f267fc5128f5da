-- Predicates and their parameters.
use Rattle.std.proofs.Common.{◌≡◌, ℕ, Bool, true, false, List, [], ◌∷◌, ◌++◌, Option, Some, None, refl}
use Rattle.std.specs.Prelude.{pos}
use Rattle.fzn_lexer.specs.declared.token.Symbol.{Symbol}
use Rattle.fzn_lexer.specs.declared.token.Token.{Token}
use Rattle.fzn_lexer.specs.Kinds.{is_symbol}
use Rattle.fzn_lexer.specs.declared.token.Kind.TheVariants as k
use Rattle.fzn_lexer.specs.declared.token.Symbol.TheVariants as s
use Rattle.fzn_tree.specs.declared.tree.Base.{Base}
use Rattle.fzn_tree.specs.declared.tree.Indices.{Indices}
use Rattle.fzn_tree.specs.declared.tree.Name.{Name}
use Rattle.fzn_tree.specs.declared.tree.PredicateParam.{PredicateParam}
use Rattle.fzn_tree.specs.Piece.{AreSpelled, sign_piece, piece_at}
use Rattle.fzn_tree.specs.declared.tree.Base.TheVariants as bases
use Rattle.fzn_tree.specs.declared.tree.Indices.TheVariants as indices
use Rattle.fzn_tree.specs.Grammar as G
use Rattle.fzn_parser.specs.Reads.{next_is, SameNext, Stops}
use Rattle.fzn_parser.specs.GoesOn.{never}
use Rattle.fzn_parser.specs.Taken.{is}
use Rattle.fzn_parser.specs.Lists.{IsListable, AreMany}
use Rattle.fzn_parser.proofs.NextLaws.{next_kind, next_split, stops_never}
use Rattle.fzn_parser.proofs.OneTokenLaws.{no_pieces}
use Rattle.fzn_parser.proofs.TokenLaws.{number_piece}
use Rattle.fzn_parser.proofs.Onward.{Parts, last, part, Values, spells, IsForm, form}
use Rattle.fzn_parser.proofs.ListLaws.{closed, closed_last}
use Rattle.fzn_parser.proofs.FormLaws.{clash, clash', some_name, word, last_word, placed_word, named}
use Rattle.fzn_parser.proofs.TypeLaws.{base_next}

module _ (ts : List Token) where
  pub indices_any : next_is (is s.Int) ts ≡ true → IsForm G.index_set never ts (last_word s.Int) (λ u. indices.Any)
  indices_any there = form (λ u. indices.Any) (λ u. refl) onto (closed_last never)
    where
      onto : (x : Indices) (u v : List Token) → AreSpelled u (G.index_set x) → Stops never v → SameNext (u ++ v) ts → (c : Unit {0}) × (indices.Any ≡ x)
      onto indices.Any u v spelled stops same = (tt, refl)
      onto (indices.Size n) u v spelled stops same = absurd (clash (is s.Int) ts (u ++ v) there same (next_kind (is_symbol s.Int) (number_piece (pos 1)) _ u v spelled))

  pub indices_size : next_is (is s.Int) ts ≡ false → IsForm G.index_set never ts (last G.index never 0) (λ n. indices.Size n)
  indices_size there = form (λ n. indices.Size n) (λ n. refl) onto (closed_last never)
    where
      onto : (x : Indices) (u v : List Token) → AreSpelled u (G.index_set x) → Stops never v → SameNext (u ++ v) ts → (c : ℕ) × (indices.Size c ≡ x)
      onto (indices.Size n) u v spelled stops same = (n, refl)
      onto indices.Any u v spelled stops same = absurd (clash' (is s.Int) ts (u ++ v) there same (next_kind (is_symbol s.Int) (sign_piece s.Int) [] u v spelled))

  pub array_none : next_is (is s.Array) ts ≡ false → IsForm G.predicate_array (is s.Array) ts (last no_pieces (is s.Array) tt) (λ u. None)
  array_none there = form (λ u. None) (λ u. refl) onto (λ v stops. stops)
    where
      onto : (x : Option Indices) (u v : List Token) → AreSpelled u (G.predicate_array x) → Stops (is s.Array) v → SameNext (u ++ v) ts → (c : Unit {0}) × (None ≡ x)
      onto None u v spelled stops same = (tt, refl)
      onto (Some i) u v spelled stops same = absurd (clash' (is s.Array) ts (u ++ v) there same (next_kind (is_symbol s.Array) (sign_piece s.Array) _ u v spelled))

  pub array_some : next_is (is s.Array) ts ≡ true → IsForm G.predicate_array (is s.Array) ts (word s.Array (word s.OpenBracket (part G.index_set never indices.Any (word s.CloseBracket (last_word s.Of))))) (λ p. Some p.1.1.0)
  array_some there = form (λ p. Some p.1.1.0) (λ p. refl) onto (closed _ _, (closed _ _, (closed _ _, (closed _ _, closed_last (is s.Array)))))
    where
      onto : (x : Option Indices) (u v : List Token) → AreSpelled u (G.predicate_array x) → Stops (is s.Array) v → SameNext (u ++ v) ts → (c : Unit {0} × (Unit {0} × (Indices × (Unit {0} × Unit {0})))) × (Some c.1.1.0 ≡ x)
      onto (Some i) u v spelled stops same = ((tt, (tt, (i, (tt, tt)))), refl)
      onto None [] v spelled stops same = absurd (clash (is s.Array) ts v there same stops)
      onto None (y ∷ u) v spelled stops same = absurd spelled

  pub var_none : next_is (is s.Var) ts ≡ false → IsForm G.optional_var (is s.Var) ts (last no_pieces (is s.Var) tt) (λ u. false)
  var_none there = form (λ u. false) (λ u. refl) onto (λ v stops. stops)
    where
      onto : (x : Bool) (u v : List Token) → AreSpelled u (G.optional_var x) → Stops (is s.Var) v → SameNext (u ++ v) ts → (c : Unit {0}) × (false ≡ x)
      onto false u v spelled stops same = (tt, refl)
      onto true u v spelled stops same = absurd (clash' (is s.Var) ts (u ++ v) there same (next_kind (is_symbol s.Var) (sign_piece s.Var) [] u v spelled))

  pub var_some : next_is (is s.Var) ts ≡ true → IsForm G.optional_var (is s.Var) ts (last_word s.Var) (λ u. true)
  var_some there = form (λ u. true) (λ u. refl) onto (closed_last (is s.Var))
    where
      onto : (x : Bool) (u v : List Token) → AreSpelled u (G.optional_var x) → Stops (is s.Var) v → SameNext (u ++ v) ts → (c : Unit {0}) × (true ≡ x)
      onto true u v spelled stops same = (tt, refl)
      onto false [] v spelled stops same = absurd (clash (is s.Var) ts v there same stops)
      onto false (y ∷ u) v spelled stops same = absurd spelled

-- ---- parameters

abbrev typed : Parts
typed = part G.base never bases.Bool (word s.Colon (last G.name never some_name))

abbrev pub param_parts : Parts
param_parts = part G.predicate_array (is s.Array) None (part G.optional_var (is s.Var) false typed)

typed_next : (x : Symbol) → is_symbol x (k.Symbol s.Bool) ≡ false → is_symbol x (k.Symbol s.Int) ≡ false → is_symbol x (k.Symbol s.Set) ≡ false → is_symbol x (k.Symbol s.OpenBrace) ≡ false → (p : Base × (Unit {0} × Name)) (u v : List Token) → AreSpelled u (spells typed p) → next_is (is x) (u ++ v) ≡ false
typed_next x b i q o p u v spelled = next_split (is x) false (G.base p.0) _ u v (λ w z done. base_next (is_symbol x) false b i q o (λ n. refl) p.0 w z done) spelled

not_array : (p : Bool × (Base × (Unit {0} × Name))) (u v : List Token) → AreSpelled u (G.optional_var p.0 ++ spells typed p.1) → next_is (is s.Array) (u ++ v) ≡ false
not_array (true, p) u v spelled = next_kind (is_symbol s.Array) (sign_piece s.Var) _ u v spelled
not_array (false, p) u v spelled = typed_next s.Array refl refl refl refl p u v spelled

abbrev pub param_from : Values param_parts → PredicateParam
param_from p = record { array = p.0; is_var = p.1.0; base = p.1.1.0; name = p.1.1.1.1 }

pub param_begun : (ts : List Token) → IsForm G.predicate_param never ts param_parts param_from
param_begun ts =
    form param_from (λ p. refl) (λ x u v spelled stops same. ((x.array, (x.is_var, (x.base, (tt, x.name)))), refl))
    (λ p u v spelled stops. not_array p u v spelled, (λ p u v spelled stops. typed_next s.Var refl refl refl refl p u v spelled, (closed _ _, (closed _ _, closed_last never))))

param_next : (a : Option Indices) (b : Bool) (p : Base × (Unit {0} × Name)) (u v : List Token) → AreSpelled u (G.predicate_array a ++ (G.optional_var b ++ spells typed p)) → next_is (is s.CloseParen) (u ++ v) ≡ false
param_next (Some i) b p u v spelled = next_kind (is_symbol s.CloseParen) (sign_piece s.Array) _ u v spelled
param_next None true p u v spelled = next_kind (is_symbol s.CloseParen) (sign_piece s.Var) _ u v spelled
param_next None false p u v spelled = typed_next s.CloseParen refl refl refl refl p u v spelled

pub params_listed : IsListable (λ n. G.predicate_param) never s.CloseParen
params_listed = record {
  some = record { array = None; is_var = false; base = bases.Bool; name = some_name };
  not_end = λ e. cc;
  not_comma = λ e. cc;
  comma = λ v e. stops_never v;
  ends = λ v e. stops_never v;
  first = λ x u v spelled. param_next x.array x.is_var (x.base, (tt, x.name)) u v spelled;
}

-- ---- predicates

pub predicate_begun : (ts : List Token) → IsForm G.predicate never ts (placed_word s.Predicate (named (word s.OpenParen (part (G.listed (λ n. G.predicate_param) s.CloseParen) never [] (last_word s.Semicolon))))) (λ p. record { position = p.0; name = p.1.0; params = p.1.1.1.0 })
predicate_begun ts = form (λ p. record { position = p.0; name = p.1.0; params = p.1.1.1.0 }) (λ p. refl) (λ x u v spelled stops same. ((x.position, (x.name, (tt, (x.params, tt)))), refl)) (closed _ _, (closed _ _, (closed _ _, (closed _ _, closed_last never))))

pub predicates_many : AreMany (λ n. G.predicate) never s.Predicate
predicates_many = record {
  starts = λ n p u v spelled. next_kind (is_symbol s.Predicate) (piece_at (k.Symbol s.Predicate) p.position) _ u v spelled;
  apart = λ v there. stops_never v;
}
