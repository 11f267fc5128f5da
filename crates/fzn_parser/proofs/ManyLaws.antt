-- As many parts as there are, each of which begins with a sign.
use Rattle.std.proofs.Common.{◌≡◌, ℕ, suc, Bool, true, false, List, [], ◌∷◌, ◌++◌, length, Result, Ok, Err, refl, sym, subst, append_assoc, arith, length-append}
use Rattle.std.specs.Prelude.{◌||◌}
use Rattle.std.proofs.lemmas.List.{append-nil}
use Rattle.std.specs.Result.{IsErrAnd}
use Rattle.fzn_lexer.specs.declared.halt.Halt.{Halt}
use Rattle.fzn_lexer.specs.declared.token.Symbol.{Symbol}
use Rattle.fzn_lexer.specs.declared.token.Token.{Token}
use Rattle.fzn_tree.specs.Piece.{Piece, AreSpelled, each, one_more}
use Rattle.fzn_parser.specs.declared.cursor.Refusal.{Refusal}
use Rattle.fzn_parser.specs.Reads.{next_is, Stops, ReadsValue}
use Rattle.fzn_parser.specs.Taken.{is}
use Rattle.fzn_parser.specs.Lists.{AreMany}
use Rattle.fzn_parser.proofs.Onward.{last, loop, Onward, form, begin, done, is_read}
use Rattle.fzn_parser.proofs.OneTokenLaws.{no_pieces, nothing_read}
use Rattle.fzn_parser.proofs.LoopLaws.{IsLoop, turn, turn_stop, turns_end, same_onward}

or_false : (a b : Bool) → (a || b) ≡ false → (a ≡ false) × (b ≡ false)
or_false true b e = absurd cc
or_false false b e = (refl, e)

module _ {A : Type 0} (spell : ℕ → A → List Piece) (g : Token → Bool) (begins : Symbol) where
  abbrev pub one_goes_on : Token → Bool
  one_goes_on t = is begins t || g t

  -- these parts are read, up to here
  pub record AreRead (ts : List Token) (parts : List A) (mid : List Token) : Type 0 where
    pub on : Onward (each spell 0) one_goes_on ts (loop one_more spell (length parts) one_goes_on (last no_pieces one_goes_on tt)) (λ p. parts ++ p.0) mid

  none_stops : (b : Unit {0}) (u v : List Token) → AreSpelled u (no_pieces b) → Stops one_goes_on v → Stops one_goes_on (u ++ v)
  none_stops b [] v spelled stops = stops
  none_stops b (y ∷ u) v spelled stops = absurd spelled

  pub many_begun : (ts : List Token) → AreRead ts [] ts
  many_begun ts = record { on = begin (form (λ p. p.0) (λ p. sym (append-nil (each spell 0 p.0))) (λ b u v spelled stops same. ((b, tt), refl)) (none_stops, λ v stops. stops)) }

module _ {A : Type 0} {spell : ℕ → A → List Piece} {g : Token → Bool} {begins : Symbol} (w : AreMany spell g begins) where
  stops_both : (v : List Token) → Stops (one_goes_on spell g begins) v → Stops g v × (next_is (is begins) v ≡ false)
  stops_both [] e = (refl, refl)
  stops_both (t ∷ v) e = let b = or_false (is begins t) (g t) e in (b.1, b.0)

  pub begun : IsLoop one_more spell (is begins) g (one_goes_on spell g begins)
  begun = record { starts = w.starts; apart = w.apart; ends = λ v stops. (stops_both v stops).0; ends_test = λ v stops. (stops_both v stops).1 }

  module _ {ts mid : List Token} {parts : List A} (all : AreRead spell g begins ts parts mid) where
    pub many_turn : {a : A} {after : List Token} → next_is (is begins) mid ≡ true → ReadsValue (spell (length parts)) g mid (Ok a) after → AreRead spell g begins ts (parts ++ a ∷ []) after
    many_turn {a} {after} there p =
        let len : suc (length parts) ≡ length (parts ++ a ∷ []) = omega (arith, length-append parts (a ∷ [])) in
        record {
          on = subst (λ (n : ℕ). Onward (each spell 0) (one_goes_on spell g begins) ts (loop one_more spell n (one_goes_on spell g begins) (last no_pieces (one_goes_on spell g begins) tt)) (λ p. (parts ++ a ∷ []) ++ p.0) after) len
              (same_onward (λ p. (parts ++ a ∷ []) ++ p.0) (λ p. sym (append_assoc parts (a ∷ []) p.0)) (turn begun all.on there p));
        }

    pub many_stop : {x : Halt Refusal} {r : Result (List A) (Halt Refusal)} {after rest : List Token} → next_is (is begins) mid ≡ true → ReadsValue (spell (length parts)) g mid (Err x) after → IsErrAnd r (λ y. y ≡ x) → ReadsValue (each spell 0) (one_goes_on spell g begins) ts r rest
    many_stop there p is = turn_stop begun all.on there p is

    pub many_read : next_is (is begins) mid ≡ false → ReadsValue (each spell 0) (one_goes_on spell g begins) ts (Ok parts) mid
    many_read over = subst (λ (z : List A). ReadsValue (each spell 0) (one_goes_on spell g begins) ts (Ok z) mid) (append-nil parts) (done (turns_end begun all.on over) (is_read (nothing_read (one_goes_on spell g begins) mid)))
