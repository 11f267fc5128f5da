-- When tokens spell at most one value of a phrase.
use Rattle.std.proofs.Common.{◌≡◌, ℕ, Bool, true, false, List, [], ◌∷◌, ◌++◌, refl, sym, ap, subst, ◌∙◌, append_assoc}
use Rattle.fzn_lexer.specs.declared.token.Symbol.{Symbol}
use Rattle.fzn_lexer.specs.declared.token.Token.{Token}
use Rattle.fzn_lexer.specs.declared.token.Symbol.TheVariants as s
use Rattle.fzn_tree.specs.Piece.{Piece, FitsPiece, AreSpelled, PassNoLimit, sign, sign_piece, each_by, marked}
use Rattle.fzn_tree.specs.Grammar as G
use Rattle.fzn_parser.specs.GoesOn.{never}
use Rattle.fzn_parser.specs.Lists.{IsListable}
use Rattle.fzn_parser.specs.Reads.{next_is, SameNext, Stops}
use Rattle.fzn_parser.specs.Taken.{is}
use Rattle.fzn_parser.proofs.SpelledLaws.{AreSpelled-split, PassNoLimit-split, SameNext-refl, pair_is}
use Rattle.fzn_parser.proofs.OneTokenLaws.{IsToken, single, no_pieces}
use Rattle.fzn_parser.proofs.NextLaws.{next_split}
use Rattle.fzn_parser.proofs.Onward.{Parts, last, part, loop, Values, spells, Follow, IsForm}
use Rattle.fzn_parser.proofs.SequenceLaws.{StopsBefore}
use Rattle.fzn_parser.proofs.FormLaws.{marked_spelled}
use Rattle.fzn_parser.proofs.LoopLaws.{IsLoop}
use Rattle.fzn_parser.proofs.ListLaws.{comma_item, commas, listed_closed, listed_open}

-- tokens that spell a value, and behind which the phrase does not go on, spell no other
pub record IsUnique {A : Type 0} (s : A → List Piece) (g : Token → Bool) : Type 0 where
  pub one : (a b : A) (u v x y : List Token) → AreSpelled u (s a) → AreSpelled x (s b) → PassNoLimit (s a) → PassNoLimit (s b) → Stops g v → Stops g y → u ++ v ≡ x ++ y → (a ≡ b) × (v ≡ y)

-- ---- one part behind another

pub same_parts : (u l r v x m n y : List Token) → u ≡ l ++ r → x ≡ m ++ n → u ++ v ≡ x ++ y → l ++ (r ++ v) ≡ m ++ (n ++ y)
same_parts u l r v x m n y e f same = sym (append_assoc l r v) ∙ ap (λ (z : List Token). z ++ v) (sym e) ∙ same ∙ ap (λ (z : List Token). z ++ y) f ∙ append_assoc m n y

pub both_unique : {A B : Type 0} {s : A → List Piece} {g : Token → Bool} {t : B → List Piece} {h : Token → Bool} → StopsBefore g t h → IsUnique s g → IsUnique t h → IsUnique (λ (p : A × B). s p.0 ++ t p.1) h
both_unique {A} {B} {s} {g} {t} {h} after p q = record {
  one = λ a b u v x y in_a in_b within_a within_b stops_v stops_y same.
      let d = AreSpelled-split u (s a.0) (t a.1) in_a in
      let e = AreSpelled-split x (s b.0) (t b.1) in_b in
      let i = PassNoLimit-split (s a.0) (t a.1) within_a in
      let j = PassNoLimit-split (s b.0) (t b.1) within_b in
      let first = p.one a.0 b.0 d.left (d.right ++ v) e.left (e.right ++ y) d.on_left e.on_left i.0 j.0 (after a.1 d.right v d.on_right stops_v) (after b.1 e.right y e.on_right stops_y) (same_parts u d.left d.right v x e.left e.right y d.parts e.parts same) in
      let second = q.one a.1 b.1 d.right v e.right y d.on_right e.on_right i.1 j.1 stops_v stops_y first.1 in
      (pair_is a.0 b.0 a.1 b.1 first.0 second.0, second.1);
}

pub weaker_unique : {A : Type 0} {s : A → List Piece} {g h : Token → Bool} → ((v : List Token) → Stops h v → Stops g v) → IsUnique s g → IsUnique s h
weaker_unique less p = record { one = λ a b u v x y in_a in_b within_a within_b stops_v stops_y same. p.one a b u v x y in_a in_b within_a within_b (less v stops_v) (less y stops_y) same }

abbrev pub AllUnique : Parts → Type 0
AllUnique (last s g some) = IsUnique s g
AllUnique (part s g some ps) = IsUnique s g × AllUnique ps
AllUnique (loop next s k g ps) = IsUnique (each_by next s k) g × AllUnique ps

pub parts_unique : (h : Token → Bool) (ps : Parts) → Follow h ps → AllUnique ps → IsUnique (spells ps) h
parts_unique h (last s g some) follow p = weaker_unique follow p
parts_unique h (part s g some ps) follow p = both_unique follow.0 p.0 (parts_unique h ps follow.1 p.1)
parts_unique h (loop next s k g ps) follow p = both_unique follow.0 p.0 (parts_unique h ps follow.1 p.1)

-- ---- a phrase of several forms

pub record SomeForm {B : Type 0} (spell : B → List Piece) (h : Token → Bool) (ts : List Token) : Type 1 where
  pub parts : Parts
  pub make : Values parts → B
  pub is_form : IsForm spell h ts parts make
  pub unique : AllUnique parts

pub of_form : {B : Type 0} {spell : B → List Piece} {h : Token → Bool} {ts : List Token} {ps : Parts} {f : Values ps → B} → IsForm spell h ts ps f → AllUnique ps → SomeForm spell h ts
of_form {B} {spell} {h} {ts} {ps} {f} w p = record { parts = ps; make = f; is_form = w; unique = p }

module _ {B : Type 0} {spell : B → List Piece} {h : Token → Bool} where
  by_test : (test : Token → Bool) (ts : List Token) (b : Bool) → next_is test ts ≡ b → (next_is test ts ≡ true → SomeForm spell h ts) → (next_is test ts ≡ false → SomeForm spell h ts) → SomeForm spell h ts
  by_test test ts true e p q = p e
  by_test test ts false e p q = q e

  -- the form that the next token decides
  pub by_next : (test : Token → Bool) (ts : List Token) → (next_is test ts ≡ true → SomeForm spell h ts) → (next_is test ts ≡ false → SomeForm spell h ts) → SomeForm spell h ts
  by_next test ts p q = by_test test ts (next_is test ts) refl p q

  pub forms_unique : ((ts : List Token) → SomeForm spell h ts) → IsUnique spell h
  forms_unique forms = record {
    one = λ a b u v x y in_a in_b within_a within_b stops_v stops_y same.
        let w = forms (u ++ v) in
        let at_a = w.is_form.onto a u v in_a stops_v (SameNext-refl (u ++ v)) in
        let at_b = w.is_form.onto b x y in_b stops_y (subst (λ (z : List Token). SameNext z (u ++ v)) same (SameNext-refl (u ++ v))) in
        let e = ap spell (sym at_a.1) ∙ w.is_form.same at_a.0 in
        let f = ap spell (sym at_b.1) ∙ w.is_form.same at_b.0 in
        let p = (parts_unique h w.parts w.is_form.follow w.unique).one at_a.0 at_b.0 u v x y (subst (AreSpelled u) e in_a) (subst (AreSpelled x) f in_b) (subst PassNoLimit e within_a) (subst PassNoLimit f within_b) stops_v stops_y same in
        (sym at_a.1 ∙ ap w.make p.0 ∙ at_b.1, p.1);
  }

-- ---- nothing, and one token

pub nothing_unique : (g : Token → Bool) → IsUnique no_pieces g
nothing_unique g = record { one = λ a b u v x y in_a in_b within_a within_b stops_v stops_y same. (refl, none u v x y in_a in_b same) }
  where
    none : (u v x y : List Token) → AreSpelled u [] → AreSpelled x [] → u ++ v ≡ x ++ y → v ≡ y
    none [] v [] y p q same = same
    none [] v (t ∷ x) y p q same = absurd q
    none (t ∷ u) v x y p q same = absurd p

one_token : {A : Type 0} (piece : A → Piece) → ((t : Token) (a b : A) → FitsPiece t (piece a) → FitsPiece t (piece b) → a ≡ b) → (a b : A) (u v x y : List Token) → AreSpelled u (single piece a) → AreSpelled x (single piece b) → u ++ v ≡ x ++ y → (a ≡ b) × (v ≡ y)
one_token piece one a b [] v x y p q same = absurd p
one_token piece one a b (t ∷ n ∷ u) v x y p q same = absurd p.1
one_token piece one a b (t ∷ []) v [] y p q same = absurd q
one_token piece one a b (t ∷ []) v (n ∷ m ∷ x) y p q same = absurd q.1
one_token piece one a b (t ∷ []) v (n ∷ []) y p q same =
    let first : n ≡ t = cc in
    let behind : v ≡ y = cc in
    (one t a b p.0 (subst (λ (z : Token). FitsPiece z (piece b)) first q.0), behind)

pub piece_unique : {A : Type 0} (piece : A → Piece) (g : Token → Bool) → ((t : Token) (a b : A) → FitsPiece t (piece a) → FitsPiece t (piece b) → a ≡ b) → IsUnique (single piece) g
piece_unique piece g one = record { one = λ a b u v x y in_a in_b within_a within_b stops_v stops_y same. one_token piece one a b u v x y in_a in_b same }

pub token_unique : {A : Type 0} {start : _} {f : _ → A} {piece : A → Piece} → IsToken start f piece → (g : Token → Bool) → IsUnique (single piece) g
token_unique {A} {start} {f} {piece} w g = piece_unique piece g (λ t a b p q. sym (w.complete t a p).1 ∙ (w.complete t b q).1)

-- ---- as many as there are

module _ {A : Type 0} {next : ℕ → A → ℕ} {s : ℕ → A → List Piece} {test g e : Token → Bool} (w : IsLoop next s test g e) (unique : (k : ℕ) → IsUnique (s k) g) where
  some_next : (k : ℕ) (a : A) (all : List A) (u v : List Token) → AreSpelled u (each_by next s k (a ∷ all)) → next_is test (u ++ v) ≡ true
  some_next k a all u v spelled = next_split test true (s k a) (each_by next s (next k a) all) u v (λ i j in_first. w.starts k a i j in_first) spelled

  rest_stops : (k : ℕ) (all : List A) (u v : List Token) → AreSpelled u (each_by next s k all) → Stops e v → Stops g (u ++ v)
  rest_stops k [] [] v spelled stops = w.ends v stops
  rest_stops k [] (t ∷ u) v spelled stops = absurd spelled
  rest_stops k (a ∷ all) u v spelled stops = w.apart (u ++ v) (some_next k a all u v spelled)

  none_or_some : (u v x y : List Token) → AreSpelled u [] → Stops e v → u ++ v ≡ x ++ y → next_is test (x ++ y) ≡ true → ⊥
  none_or_some [] v x y p stops same passes = let o = w.ends_test v stops in let f = ap (next_is test) same in cc
  none_or_some (t ∷ u) v x y p stops same passes = absurd p

  each_one : (a b : List A) (k : ℕ) (u v x y : List Token) → AreSpelled u (each_by next s k a) → AreSpelled x (each_by next s k b) → PassNoLimit (each_by next s k a) → PassNoLimit (each_by next s k b) → Stops e v → Stops e y → u ++ v ≡ x ++ y → (a ≡ b) × (v ≡ y)
  each_one [] [] k u v x y in_a in_b within_a within_b stops_v stops_y same = (refl, ((nothing_unique e).one tt tt u v x y in_a in_b tt tt stops_v stops_y same).1)
  each_one [] (b ∷ others) k u v x y in_a in_b within_a within_b stops_v stops_y same = absurd (none_or_some u v x y in_a stops_v same (some_next k b others x y in_b))
  each_one (a ∷ more) [] k u v x y in_a in_b within_a within_b stops_v stops_y same = absurd (none_or_some x y u v in_b stops_y (sym same) (some_next k a more u v in_a))
  each_one (a ∷ more) (b ∷ others) k u v x y in_a in_b within_a within_b stops_v stops_y same =
      let d = AreSpelled-split u (s k a) (each_by next s (next k a) more) in_a in
      let c = AreSpelled-split x (s k b) (each_by next s (next k b) others) in_b in
      let i = PassNoLimit-split (s k a) (each_by next s (next k a) more) within_a in
      let j = PassNoLimit-split (s k b) (each_by next s (next k b) others) within_b in
      let first = (unique k).one a b d.left (d.right ++ v) c.left (c.right ++ y) d.on_left c.on_left i.0 j.0 (rest_stops (next k a) more d.right v d.on_right stops_v) (rest_stops (next k b) others c.right y c.on_right stops_y) (same_parts u d.left d.right v x c.left c.right y d.parts c.parts same) in
      let back = sym first.0 in
      let second = each_one more others (next k a) d.right v c.right y d.on_right (subst (λ (z : A). AreSpelled c.right (each_by next s (next k z) others)) back c.on_right) i.1 (subst (λ (z : A). PassNoLimit (each_by next s (next k z) others)) back j.1) stops_v stops_y first.1 in
      (cons_is a b more others first.0 second.0, second.1)
    where
      cons_is : (a b : A) (more others : List A) → a ≡ b → more ≡ others → a ∷ more ≡ b ∷ others
      cons_is a b more others p q = cc

  pub each_unique : (k : ℕ) → IsUnique (each_by next s k) e
  each_unique k = record { one = λ a b u v x y in_a in_b within_a within_b stops_v stops_y same. each_one a b k u v x y in_a in_b within_a within_b stops_v stops_y same }

-- ---- a limit on the number

marked_within : (b : Bool) (ps : List Piece) → PassNoLimit (marked b ps) → PassNoLimit ps
marked_within true ps within = within
marked_within false [] within = within
marked_within false (p ∷ ps) within = absurd (let e = within.0 in cc)

pub marked_unique : {A : Type 0} {s : A → List Piece} {g : Token → Bool} → IsUnique s g → (below : Bool) → IsUnique (λ a. marked below (s a)) g
marked_unique {A} {s} {g} p below = record {
  one = λ a b u v x y in_a in_b within_a within_b stops_v stops_y same. p.one a b u v x y (marked_spelled below u (s a) in_a) (marked_spelled below x (s b) in_b) (marked_within below (s a) within_a) (marked_within below (s b) within_b) stops_v stops_y same;
}

-- ---- signs and lists

pub sign_unique : (x : Symbol) (g : Token → Bool) → IsUnique (λ (u : Unit {0}). sign x) g
sign_unique x g = piece_unique (λ (u : Unit {0}). sign_piece x) g (λ t a b p q. refl)

pub listed_unique : {A : Type 0} {part_of : ℕ → A → List Piece} {g : Token → Bool} {close : Symbol} → IsListable part_of g close → ((n : ℕ) → IsUnique (part_of n) g) → IsUnique (G.listed part_of close) never
listed_unique {A} {part_of} {g} {close} w unique =
    forms_unique
    (λ ts. by_next (is close) ts
    (λ there. of_form (listed_closed w ts there) (sign_unique close never))
    (λ there. of_form (listed_open w ts there) (unique 0, (each_unique (commas w) (λ n. forms_unique (λ mid. of_form (comma_item w n mid) (sign_unique s.Comma never, unique n))) 1, sign_unique close never))))
