-- Lists between commas, up to a closing sign.
use Rattle.std.proofs.Common.{◌≡◌, ℕ, suc, Bool, true, false, List, [], ◌∷◌, ◌++◌, length, Result, Ok, Err, refl, sym, ap, subst, ◌∙◌, append_assoc, arith, length-append}
use Rattle.std.proofs.lemmas.List.{append-nil}
use Rattle.std.specs.Prelude.{not}
use Rattle.std.specs.Result.{IsErrAnd}
use Rattle.fzn_lexer.specs.declared.halt.Halt.{Halt}
use Rattle.fzn_lexer.specs.declared.token.Kind.{Kind}
use Rattle.fzn_lexer.specs.declared.token.Symbol.{Symbol}
use Rattle.fzn_lexer.specs.declared.token.Token.{Token}
use Rattle.fzn_lexer.specs.Kinds.{is_symbol}
use Rattle.fzn_lexer.specs.declared.token.Kind.TheVariants as k
use Rattle.fzn_lexer.specs.declared.token.Symbol.TheVariants as s
use Rattle.fzn_tree.specs.Piece.{Piece, AreSpelled, sign, sign_piece, each_by, one_more, ◌and◌}
use Rattle.fzn_tree.specs.Grammar as G
use Rattle.fzn_parser.specs.declared.cursor.Refusal.{Refusal}
use Rattle.fzn_parser.specs.Reads.{next_is, SameNext, Stops, ReadsValue}
use Rattle.fzn_parser.specs.GoesOn.{never}
use Rattle.fzn_parser.specs.Taken.{is}
use Rattle.fzn_parser.specs.Lists.{IsListable}
use Rattle.fzn_parser.proofs.SpelledLaws.{next_is-same}
use Rattle.fzn_parser.proofs.NextLaws.{is_symbol-true, is_symbol-same, next_kind, stops_never, next_split}
use Rattle.fzn_parser.proofs.Onward.{Parts, last, part, loop, Values, Onward, IsForm, form, begin, ◌then◌, stop, stop_last, done}
use Rattle.fzn_parser.proofs.SequenceLaws.{StopsBefore}
use Rattle.fzn_parser.proofs.LoopLaws.{IsLoop, turn, turn_stop, turns_end, same_onward}

-- a part that ends by itself may stand before anything
pub closed : {B : Type 0} (t : B → List Piece) (h : Token → Bool) → StopsBefore never t h
closed t h b u v spelled stops = stops_never (u ++ v)

pub closed_last : (h : Token → Bool) (v : List Token) → Stops h v → Stops never v
closed_last h v stops = stops_never v

module _ {A : Type 0} (part_of : ℕ → A → List Piece) (close : Symbol) where
  abbrev pub comma_part : ℕ → A → List Piece
  comma_part n x = sign s.Comma and part_of n x

  -- whatever is not the closing sign
  abbrev pub open_kind : Kind → Bool
  open_kind kind = not (is_symbol close kind)

  abbrev pub is_open : Token → Bool
  is_open t = open_kind t.kind

  abbrev pub closing : Unit {0} → List Piece
  closing u = sign close

  -- the list from its first comma on, or its closing sign
  abbrev pub rest_parts : ℕ → Parts
  rest_parts n = loop one_more comma_part n is_open (last closing never tt)

  -- these parts are read, up to here
  pub record AreListed (ts : List Token) (parts : List A) (mid : List Token) : Type 0 where
    pub on : Onward (G.listed part_of close) never ts (rest_parts (length parts)) (λ q. parts ++ q.0) mid

module _ {A : Type 0} {part_of : ℕ → A → List Piece} {g : Token → Bool} {close : Symbol} (w : IsListable part_of g close) where
  not_false : (b : Bool) → not b ≡ false → b ≡ true
  not_false true e = refl
  not_false false e = absurd cc

  open_ends : (v : List Token) → Stops (is_open part_of close) v → Stops g v
  open_ends [] e = refl
  open_ends (t ∷ v) e = w.ends (t ∷ v) (not_false (is close t) e)

  close_comma : is_symbol s.Comma (k.Symbol close) ≡ false
  close_comma = at (is_symbol s.Comma (k.Symbol close)) refl
    where
      at : (b : Bool) → is_symbol s.Comma (k.Symbol close) ≡ b → is_symbol s.Comma (k.Symbol close) ≡ false
      at true e = absurd (let same = is_symbol-true s.Comma (k.Symbol close) e in w.not_comma cc)
      at false e = e

  open_no_comma : (v : List Token) → Stops (is_open part_of close) v → next_is (is s.Comma) v ≡ false
  open_no_comma [] e = refl
  open_no_comma (t ∷ v) e = ap (is_symbol s.Comma) (is_symbol-true close t.kind (not_false (is close t) e)) ∙ close_comma

  pub commas : IsLoop one_more (comma_part part_of close) (is s.Comma) g (is_open part_of close)
  commas = record {
    starts = λ n x u v spelled. next_kind (is_symbol s.Comma) (sign_piece s.Comma) (part_of n x) u v spelled ∙ is_symbol-same s.Comma;
    apart = w.comma;
    ends = open_ends;
    ends_test = open_no_comma;
  }

  abbrev pub all_parts : Parts
  all_parts = part (part_of 0) g w.some (rest_parts part_of close 1)

  close_stops : StopsBefore (is_open part_of close) (closing part_of close) never
  close_stops b u v spelled stops = next_kind (open_kind part_of close) (sign_piece close) [] u v spelled ∙ ap not (is_symbol-same close)

  rest_stops : StopsBefore g (λ (p : List A × Unit {0}). each_by one_more (comma_part part_of close) 1 p.0 ++ (closing part_of close) p.1) never
  rest_stops ([], u0) u v spelled stops = w.ends (u ++ v) (next_kind (is_symbol close) (sign_piece close) [] u v spelled ∙ is_symbol-same close)
  rest_stops (x ∷ more, u0) u v spelled stops = w.comma (u ++ v) (next_kind (is_symbol s.Comma) (sign_piece s.Comma) _ u v spelled ∙ is_symbol-same s.Comma)

  abbrev pub comma_parts : ℕ → Parts
  comma_parts n = part (λ (u : Unit {0}). sign s.Comma) never tt (last (part_of n) g w.some)

  pub comma_item : (n : ℕ) (ts : List Token) → IsForm (comma_part part_of close n) g ts (comma_parts n) (λ p. p.1)
  comma_item n ts = form (λ p. p.1) (λ p. refl) (λ b u v spelled stops same. ((tt, b), refl)) (closed _ _, λ v stops. stops)

  module _ (ts : List Token) where
    pub listed_closed : next_is (is close) ts ≡ true → IsForm (G.listed part_of close) never ts (last (closing part_of close) never tt) (λ u. [])
    listed_closed there = form (λ u. []) (λ u. refl) onto (closed_last never)
      where
        onto : (b : List A) (u v : List Token) → AreSpelled u (G.listed part_of close b) → Stops never v → SameNext (u ++ v) ts → (c : Unit {0}) × (◌≡◌ {A = List A} [] b)
        onto [] u v spelled stops same = (tt, refl)
        onto (x ∷ more) u v spelled stops same = absurd (let n = next_is-same (is close) (u ++ v) ts same in let f = next_split (is close) false (part_of 0 x) _ u v (w.first x) spelled in cc)

    pub listed_open : next_is (is close) ts ≡ false → IsForm (G.listed part_of close) never ts all_parts (λ p. p.0 ∷ p.1.0)
    listed_open there = form (λ p. p.0 ∷ p.1.0) (λ p. refl) onto (rest_stops, (close_stops, closed_last never))
      where
        onto : (b : List A) (u v : List Token) → AreSpelled u (G.listed part_of close b) → Stops never v → SameNext (u ++ v) ts → (c : Values all_parts) × (c.0 ∷ c.1.0 ≡ b)
        onto [] u v spelled stops same = absurd (let n = next_is-same (is close) (u ++ v) ts same in let f = next_kind (is_symbol close) (sign_piece close) [] u v spelled ∙ is_symbol-same close in cc)
        onto (x ∷ more) u v spelled stops same = ((x, (more, tt)), refl)

  module _ {ts : List Token} where
    pub listed_begun : {a : A} {mid : List Token} → next_is (is close) ts ≡ false → ReadsValue (part_of 0) g ts (Ok a) mid → AreListed part_of close ts (a ∷ []) mid
    listed_begun there r = record { on = begin (listed_open ts there) then r }

    module _ {parts : List A} {mid : List Token} (all : AreListed part_of close ts parts mid) where
      in_item : Onward (comma_part part_of close (length parts)) g mid (comma_parts (length parts)) (λ p. p.1) mid
      in_item = begin (comma_item (length parts) mid)

      module _ {x : Halt Refusal} {r : Result (List A) (Halt Refusal)} {rest : List Token} (there : next_is (is s.Comma) mid ≡ true) where
        pub listed_no_comma : {after : List Token} → ReadsValue (λ (u : Unit {0}). sign s.Comma) never mid (Err x) after → IsErrAnd r (λ y. y ≡ x) → ReadsValue (G.listed part_of close) never ts r rest
        listed_no_comma {after} p is = turn_stop commas all.on there (stop in_item {r = Err x} {rest = after} p refl) is

        pub listed_no_part : {next after : List Token} → ReadsValue (λ (u : Unit {0}). sign s.Comma) never mid (Ok tt) next → ReadsValue (part_of (length parts)) g next (Err x) after → IsErrAnd r (λ y. y ≡ x) → ReadsValue (G.listed part_of close) never ts r rest
        listed_no_part {next} {after} c p is = turn_stop commas all.on there (stop_last (in_item then c) {r = Err x} {rest = after} p refl) is

      pub listed_turn : {a : A} {next after : List Token} → next_is (is s.Comma) mid ≡ true → ReadsValue (λ (u : Unit {0}). sign s.Comma) never mid (Ok tt) next → ReadsValue (part_of (length parts)) g next (Ok a) after → AreListed part_of close ts (parts ++ a ∷ []) after
      listed_turn {a} {next} {after} there c p =
          let len : suc (length parts) ≡ length (parts ++ a ∷ []) = omega (arith, length-append parts (a ∷ [])) in
          record {
            on = subst (λ (n : ℕ). Onward (G.listed part_of close) never ts (rest_parts part_of close n) (λ q. (parts ++ a ∷ []) ++ q.0) after) len
                (same_onward (λ q. (parts ++ a ∷ []) ++ q.0) (λ q. sym (append_assoc parts (a ∷ []) q.0)) (turn commas all.on there (done (in_item then c) p)));
          }

      module _ (over : next_is (is s.Comma) mid ≡ false) where
        pub listed_unended : {x : Halt Refusal} {r : Result (List A) (Halt Refusal)} {after rest : List Token} → ReadsValue (closing part_of close) never mid (Err x) after → IsErrAnd r (λ y. y ≡ x) → ReadsValue (G.listed part_of close) never ts r rest
        listed_unended p is = stop_last (turns_end commas all.on over) p is

        pub listed_read : {rest : List Token} → ReadsValue (closing part_of close) never mid (Ok tt) rest → ReadsValue (G.listed part_of close) never ts (Ok parts) rest
        listed_read {rest} p = subst (λ (z : List A). ReadsValue (G.listed part_of close) never ts (Ok z) rest) (append-nil parts) (done (turns_end commas all.on over) p)
