-- As many as there are, one after another.
use Rattle.std.proofs.Common.{◌≡◌, ℕ, Bool, true, false, List, [], ◌∷◌, ◌++◌, Result, Ok, Err, refl, ap, subst, append_assoc}
use Rattle.std.specs.Result.{IsErrAnd}
use Rattle.fzn_lexer.specs.declared.halt.Halt.{Halt}
use Rattle.fzn_lexer.specs.declared.token.Token.{Token}
use Rattle.fzn_tree.specs.Piece.{Piece, AreSpelled, each_by}
use Rattle.fzn_parser.specs.declared.cursor.Refusal.{Refusal}
use Rattle.fzn_parser.specs.Reads.{next_is, SameNext, Stops, IsRead, IsRefused, ReadsValue}
use Rattle.fzn_parser.proofs.SpelledLaws.{next_is-same}
use Rattle.fzn_parser.proofs.NextLaws.{next_split}
use Rattle.fzn_parser.proofs.Onward.{Parts, loop, Values, spells, some_of, Onward, exit}
use Rattle.fzn_parser.proofs.SequenceLaws.{both_by, StopsBefore, then_ok, then_err, first_err, form_ok, form_err}

-- each part passes a test, and no part goes on where the next one begins, or where all end
pub record IsLoop {A : Type 0} (next : ℕ → A → ℕ) (s : ℕ → A → List Piece) (test g e : Token → Bool) : Type 0 where
  pub starts : (k : ℕ) (a : A) (u v : List Token) → AreSpelled u (s k a) → next_is test (u ++ v) ≡ true
  pub apart : (ts : List Token) → next_is test ts ≡ true → Stops g ts
  pub ends : (v : List Token) → Stops e v → Stops g v
  pub ends_test : (v : List Token) → Stops e v → next_is test v ≡ false

module _ {A : Type 0} (next : ℕ → A → ℕ) (s : ℕ → A → List Piece) (test g e : Token → Bool) (w : IsLoop next s test g e) (h : Token → Bool) (ps : Parts) (follow : StopsBefore e (spells ps) h) (mid : List Token) where
  abbrev behind : ℕ → List A × Values ps → List Piece
  behind k p = each_by next s k p.0 ++ spells ps p.1

  some_starts : (k : ℕ) (a : A) (all : List A) (b : Values ps) (u v : List Token) → AreSpelled u (behind k (a ∷ all, b)) → next_is test (u ++ v) ≡ true
  some_starts k a all b u v spelled = next_split test true (each_by next s k (a ∷ all)) (spells ps b) u v (λ o q done. next_split test true (s k a) (each_by next s (next k a) all) o q (λ i j in_first. w.starts k a i j in_first) done) spelled

  behind_stops : (k : ℕ) → StopsBefore g (behind k) h
  behind_stops k ([], b) u v spelled stops = w.ends (u ++ v) (follow b u v spelled stops)
  behind_stops k (a ∷ all, b) u v spelled stops = w.apart (u ++ v) (some_starts k a all b u v spelled)

  abbrev turned : A × (List A × Values ps) → List A × Values ps
  turned p = (p.0 ∷ p.1.0, p.1.1)

  turned_same : (k : ℕ) (p : A × (List A × Values ps)) → behind k (turned p) ≡ both_by (s k) (λ a. behind (next k a)) p
  turned_same k p = append_assoc (s k p.0) (each_by next s (next k p.0) p.1.0) (spells ps p.1.1)

  turned_onto : (k : ℕ) → next_is test mid ≡ true → (b : List A × Values ps) (u v : List Token) → AreSpelled u (behind k b) → Stops h v → SameNext (u ++ v) mid → (a : A × (List A × Values ps)) × (turned a ≡ b)
  turned_onto k there ([], b) u v spelled stops same = absurd (let n = next_is-same test (u ++ v) mid same in let o = w.ends_test (u ++ v) (follow b u v spelled stops) in cc)
  turned_onto k there (a ∷ all, b) u v spelled stops same = ((a, (all, b)), refl)

  turn_ok : (k : ℕ) (a : A) (mid' : List Token) (c : List A × Values ps) (rest : List Token) → next_is test mid ≡ true → IsRead (s k) g mid a mid' → IsRead (behind (next k a)) h mid' c rest → IsRead (behind k) h mid (a ∷ c.0, c.1) rest
  turn_ok k a mid' c rest there r p = form_ok (both_by (s k) (λ a. behind (next k a))) (behind k) h mid turned (turned_same k) (turned_onto k there) (a, c) rest (then_ok (s k) g (λ a. behind (next k a)) h (λ a. behind_stops (next k a)) mid a mid' c rest r p)

  turn_err : (k : ℕ) (a : A) (mid' : List Token) (x : Refusal) → next_is test mid ≡ true → IsRead (s k) g mid a mid' → IsRefused (behind (next k a)) h mid' x → IsRefused (behind k) h mid x
  turn_err k a mid' x there r p = form_err (both_by (s k) (λ a. behind (next k a))) (behind k) h mid turned (turned_same k) (turned_onto k there) x (then_err (s k) g (λ a. behind (next k a)) h (λ a. behind_stops (next k a)) mid a mid' x r p)

  turn_none : (k : ℕ) (x : Refusal) → next_is test mid ≡ true → IsRefused (s k) g mid x → IsRefused (behind k) h mid x
  turn_none k x there p = form_err (both_by (s k) (λ a. behind (next k a))) (behind k) h mid turned (turned_same k) (turned_onto k there) x (first_err (s k) g (λ a. behind (next k a)) h (λ a. behind_stops (next k a)) (λ a. ([], some_of ps)) mid x p)

  none_onto : (k : ℕ) → next_is test mid ≡ false → (b : List A × Values ps) (u v : List Token) → AreSpelled u (behind k b) → Stops h v → SameNext (u ++ v) mid → (c : Values ps) × (◌≡◌ {A = List A × Values ps} ([], c) b)
  none_onto k there ([], b) u v spelled stops same = (b, refl)
  none_onto k there (a ∷ all, b) u v spelled stops same = absurd (let n = next_is-same test (u ++ v) mid same in let o = some_starts k a all b u v spelled in cc)

module _ {A B : Type 0} {next : ℕ → A → ℕ} {s : ℕ → A → List Piece} {test g e : Token → Bool} (w : IsLoop next s test g e) {spell : B → List Piece} {h : Token → Bool} {ts : List Token} {k : ℕ} {ps : Parts} {f : List A × Values ps → B} {mid : List Token} (on : Onward spell h ts (loop next s k e ps) f mid) where
  pub turn : {a : A} {mid' : List Token} → next_is test mid ≡ true → ReadsValue (s k) g mid (Ok a) mid' → Onward spell h ts (loop next s (next k a) e ps) (λ p. f (a ∷ p.0, p.1)) mid'
  turn {a} {mid'} there r = record {
    follow = on.follow;
    read = λ c rest p. on.read (a ∷ c.0, c.1) rest (turn_ok next s test g e w h ps on.follow.0 mid k a mid' c rest there (r.ok a refl) p);
    refused = λ x p. on.refused x (turn_err next s test g e w h ps on.follow.0 mid k a mid' x there (r.ok a refl) p);
  }

  pub turn_stop : {x : Halt Refusal} {r : Result B (Halt Refusal)} {after rest : List Token} → next_is test mid ≡ true → ReadsValue (s k) g mid (Err x) after → IsErrAnd r (λ y. y ≡ x) → ReadsValue spell h ts r rest
  turn_stop {x} {r} {after} {rest} there p is = exit x r rest is (λ y i. on.refused y (turn_none next s test g e w h ps on.follow.0 mid k y there (p.err y (ap Err i))))

  pub turns_end : next_is test mid ≡ false → Onward spell h ts ps (λ c. f ([], c)) mid
  turns_end there = record {
    follow = on.follow.1;
    read = λ c rest p. on.read ([], c) rest (form_ok (spells ps) (behind next s test g e w h ps on.follow.0 mid k) h mid (λ c. ([], c)) (λ c. refl) (none_onto next s test g e w h ps on.follow.0 mid k there) c rest p);
    refused = λ x p. on.refused x (form_err (spells ps) (behind next s test g e w h ps on.follow.0 mid k) h mid (λ c. ([], c)) (λ c. refl) (none_onto next s test g e w h ps on.follow.0 mid k there) x p);
  }

-- the value that is made, in another form
pub same_onward : {B : Type 0} {spell : B → List Piece} {h : Token → Bool} {ts : List Token} {ps : Parts} {f : Values ps → B} {mid : List Token} (f' : Values ps → B) → ((c : Values ps) → f c ≡ f' c) → Onward spell h ts ps f mid → Onward spell h ts ps f' mid
same_onward {B} {spell} {h} {ts} {ps} {f} {mid} f' same on = record { follow = on.follow; read = λ c rest p. subst (λ (z : B). IsRead spell h ts z rest) (same c) (on.read c rest p); refused = λ e p. on.refused e p }
