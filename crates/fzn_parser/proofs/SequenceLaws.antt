-- A second part behind a first, and another form of a value.
use Rattle.std.proofs.Common.{◌≡◌, ℕ, ◌+◌, Bool, List, [], ◌++◌, length, sym, ap, subst, ◌∙◌, append_assoc, inl, inr, length-append}
use Rattle.std.proofs.lemmas.List.{append-nil}
use Rattle.fzn_lexer.specs.declared.token.Token.{Token}
use Rattle.fzn_tree.specs.Piece.{Piece, AreSpelled, PassNoLimit}
use Rattle.fzn_parser.specs.declared.cursor.Refusal.{Refusal}
use Rattle.fzn_parser.specs.Reads.{SameNext, Stops, IsRead, Limited, IsRefused}
use Rattle.fzn_parser.proofs.SpelledLaws.{AreSpelled-append, AreSpelled-split, PassNoLimit-append, AreSpelled-length, Limited-left, Limited-right, NoEnd-append, SameNext-append, PassesLimit-append}

-- ---- a second part behind a first

abbrev pub both_by : {A : Type 0} {B : A → Type 0} → (A → List Piece) → ((a : A) → B a → List Piece) → (a : A) × B a → List Piece
both_by s t p = s p.0 ++ t p.0 p.1

-- what may stand behind the second part does not go on the first
abbrev pub StopsBefore : {B : Type 0} → (Token → Bool) → (B → List Piece) → (Token → Bool) → Type 0
StopsBefore {B} g t h = (b : B) (u v : List Token) → AreSpelled u (t b) → Stops h v → Stops g (u ++ v)

module _ {A : Type 0} {B : A → Type 0} (s : A → List Piece) (g : Token → Bool) (t : (a : A) → B a → List Piece) (h : Token → Bool) (after : (a : A) → StopsBefore g (t a) h) where
  there_at : (front middle x u v : List Token) (c : (a : A) × B a) (spelled : AreSpelled u (both_by s t c)) → u ++ v ≡ (front ++ middle) ++ x → (AreSpelled-split u (s c.0) (t c.0 c.1) spelled).left ++ ((AreSpelled-split u (s c.0) (t c.0 c.1) spelled).right ++ v) ≡ front ++ (middle ++ x)
  there_at front middle x u v c spelled same =
      let d = AreSpelled-split u (s c.0) (t c.0 c.1) spelled in
      sym (append_assoc d.left d.right v) ∙ ap (λ (z : List Token). z ++ v) (sym d.parts) ∙ same ∙ append_assoc front middle x

  pub then_ok : (ts : List Token) (a : A) (mid : List Token) (b : B a) (rest : List Token) → IsRead s g ts a mid → IsRead (t a) h mid b rest → IsRead (both_by s t) h ts (a, b) rest
  then_ok ts a mid b rest p q = record {
    front = p.front ++ q.front;
    parts = p.parts ∙ ap (λ (z : List Token). p.front ++ z) q.parts ∙ sym (append_assoc p.front q.front rest);
    plain = NoEnd-append p.front q.front p.plain q.plain;
    spelled = AreSpelled-append p.front q.front (s a) (t a b) p.spelled q.spelled;
    within = PassNoLimit-append (s a) (t a b) p.within q.within;
    only = λ c u v x spelled stops same next.
        let d = AreSpelled-split u (s c.0) (t c.0 c.1) spelled in
        let near : SameNext (q.front ++ x) mid = subst (λ (z : List Token). SameNext (q.front ++ x) z) (sym q.parts) (SameNext-append q.front x rest next) in
        let one = p.only c.0 d.left (d.right ++ v) (q.front ++ x) d.on_left (after c.0 c.1 d.right v d.on_right stops) (there_at p.front q.front x u v c spelled same) near in
        subst (λ (z : A). (y : B z) → AreSpelled d.right (t z y) → (◌≡◌ {A = (a : A) × B a} (z, y) (a, b)) × (v ≡ x)) (sym one.0)
        (λ y in_second. let two = q.only y d.right v x in_second stops one.1 next in (ap {B = (a : A) × B a} (λ (w : B a). (a, w)) two.0, two.1)) c.1 d.on_right;
  }

  pub then_err : (ts : List Token) (a : A) (mid : List Token) (e : Refusal) → IsRead s g ts a mid → IsRefused (t a) h mid e → IsRefused (both_by s t) h ts e
  then_err ts a mid e p q = record {
    front = p.front ++ q.front;
    rest = q.rest;
    parts = p.parts ∙ ap (λ (z : List Token). p.front ++ z) q.parts ∙ sym (append_assoc p.front q.front q.rest);
    plain = NoEnd-append p.front q.front p.plain q.plain;
    size = q.size;
    more = q.more;
    begins = record {
      value = (a, q.begins.value);
      pieces = s a ++ q.begins.pieces;
      parts = ap (λ (z : List Piece). s a ++ z) q.begins.parts ∙ sym (append_assoc (s a) q.begins.pieces q.more);
      spelled = AreSpelled-append p.front q.front (s a) q.begins.pieces p.spelled q.begins.spelled;
      within = PassNoLimit-append (s a) q.begins.pieces p.within q.begins.within;
    };
    why = elim q.why [
      | inl w ↦ inl (
        w.0,
        λ c u v x spelled stops same next.
            let d = AreSpelled-split u (s c.0) (t c.0 c.1) spelled in
            let near : SameNext (q.front ++ x) mid = subst (λ (z : List Token). SameNext (q.front ++ x) z) (sym q.parts) (SameNext-append q.front x q.rest next) in
            let one = p.only c.0 d.left (d.right ++ v) (q.front ++ x) d.on_left (after c.0 c.1 d.right v d.on_right stops) (there_at p.front q.front x u v c spelled same) near in
            subst (λ (z : A). (y : B z) → AreSpelled d.right (t z y) → ⊥) (sym one.0) (λ y in_second. w.1 y d.right v x in_second stops one.1 next) c.1 d.on_right,
      )
      | inr w ↦ inr (
        w.0,
        λ c u v x spelled stops same next.
            let d = AreSpelled-split u (s c.0) (t c.0 c.1) spelled in
            let near : SameNext (q.front ++ x) mid = subst (λ (z : List Token). SameNext (q.front ++ x) z) (sym q.parts) (SameNext-append q.front x q.rest next) in
            let one = p.only c.0 d.left (d.right ++ v) (q.front ++ x) d.on_left (after c.0 c.1 d.right v d.on_right stops) (there_at p.front q.front x u v c spelled same) near in
            let size : length (p.front ++ q.front) ≡ length (s c.0) + length q.front = length-append p.front q.front ∙ ap (λ (n : ℕ). n + length q.front) (AreSpelled-length p.front (s a) p.spelled ∙ ap (λ (z : A). length (s z)) (sym one.0)) in
            let past = subst (λ (z : A). (y : B z) → AreSpelled d.right (t z y) → Limited e.kind (length q.front) (t z y)) (sym one.0) (λ y in_second. w.1 y d.right v x in_second stops one.1 next) c.1 d.on_right in
            Limited-right e.kind (length q.front) (length (p.front ++ q.front)) (s c.0) (t c.0 c.1) size past,
      )
    ];
  }

  pub first_err : (some : (a : A) → B a) (ts : List Token) (e : Refusal) → IsRefused s g ts e → IsRefused (both_by s t) h ts e
  first_err some ts e p = record {
    front = p.front;
    rest = p.rest;
    parts = p.parts;
    plain = p.plain;
    size = p.size;
    more = p.more ++ t p.begins.value (some p.begins.value);
    begins = record {
      value = (p.begins.value, some p.begins.value);
      pieces = p.begins.pieces;
      parts = ap (λ (z : List Piece). z ++ t p.begins.value (some p.begins.value)) p.begins.parts ∙ append_assoc p.begins.pieces p.more (t p.begins.value (some p.begins.value));
      spelled = p.begins.spelled;
      within = p.begins.within;
    };
    why = elim p.why [
      | inl w ↦ inl (
        w.0,
        λ c u v x spelled stops same next.
            let d = AreSpelled-split u (s c.0) (t c.0 c.1) spelled in
            w.1 c.0 d.left (d.right ++ v) x d.on_left (after c.0 c.1 d.right v d.on_right stops) (there_at p.front [] x u v c spelled (same ∙ ap (λ (z : List Token). z ++ x) (sym (append-nil p.front)))) next,
      )
      | inr w ↦ inr (
        PassesLimit-append e.kind p.rest p.more (t p.begins.value (some p.begins.value)) w.0,
        λ c u v x spelled stops same next.
            let d = AreSpelled-split u (s c.0) (t c.0 c.1) spelled in
            Limited-left e.kind (length p.front) (s c.0) (t c.0 c.1) (w.1 c.0 d.left (d.right ++ v) x d.on_left (after c.0 c.1 d.right v d.on_right stops) (there_at p.front [] x u v c spelled (same ∙ ap (λ (z : List Token). z ++ x) (sym (append-nil p.front)))) next),
      )
    ];
  }

-- ---- another form of the value, which the next token may decide

module _ {A B : Type 0} (s : A → List Piece) (t : B → List Piece) (h : Token → Bool) (ts : List Token) (f : A → B) (same : (a : A) → t (f a) ≡ s a) (onto : (b : B) (u v : List Token) → AreSpelled u (t b) → Stops h v → SameNext (u ++ v) ts → (a : A) × (f a ≡ b)) where
  near : (front rest w x : List Token) → ts ≡ front ++ rest → w ≡ front ++ x → SameNext x rest → SameNext w ts
  near front rest w x parts there next = subst (λ (z : List Token). SameNext z ts) (sym there) (subst (λ (z : List Token). SameNext (front ++ x) z) (sym parts) (SameNext-append front x rest next))

  moved : (b : B) (a : A) (u : List Token) → f a ≡ b → AreSpelled u (t b) → AreSpelled u (s a)
  moved b a u is spelled = subst (λ (z : List Piece). AreSpelled u z) (ap t (sym is) ∙ same a) spelled

  pub form_ok : (a : A) (rest : List Token) → IsRead s h ts a rest → IsRead t h ts (f a) rest
  form_ok a rest p = record {
    front = p.front;
    parts = p.parts;
    plain = p.plain;
    spelled = subst (λ (z : List Piece). AreSpelled p.front z) (sym (same a)) p.spelled;
    within = subst PassNoLimit (sym (same a)) p.within;
    only = λ b u v x spelled stops there next.
        let o = onto b u v spelled stops (near p.front rest (u ++ v) x p.parts there next) in
        let one = p.only o.0 u v x (moved b o.0 u o.1 spelled) stops there next in
        (sym o.1 ∙ ap f one.0, one.1);
  }

  pub form_err : (e : Refusal) → IsRefused s h ts e → IsRefused t h ts e
  form_err e p = record {
    front = p.front;
    rest = p.rest;
    parts = p.parts;
    plain = p.plain;
    size = p.size;
    more = p.more;
    begins = record { value = f p.begins.value; pieces = p.begins.pieces; parts = same p.begins.value ∙ p.begins.parts; spelled = p.begins.spelled; within = p.begins.within };
    why = elim p.why [
      | inl w ↦ inl (
        w.0,
        λ b u v x spelled stops there next.
            let o = onto b u v spelled stops (near p.front p.rest (u ++ v) x p.parts there next) in
            w.1 o.0 u v x (moved b o.0 u o.1 spelled) stops there next,
      )
      | inr w ↦ inr (
        w.0,
        λ b u v x spelled stops there next.
            let o = onto b u v spelled stops (near p.front p.rest (u ++ v) x p.parts there next) in
            subst (Limited e.kind (length p.front)) (sym (ap t (sym o.1) ∙ same o.0)) (w.1 o.0 u v x (moved b o.0 u o.1 spelled) stops there next),
      )
    ];
  }

-- what goes on less
module _ {A : Type 0} (s : A → List Piece) (g h : Token → Bool) (less : (v : List Token) → Stops h v → Stops g v) where
  pub weaker_ok : (ts : List Token) (a : A) (rest : List Token) → IsRead s g ts a rest → IsRead s h ts a rest
  weaker_ok ts a rest p = record { front = p.front; parts = p.parts; plain = p.plain; spelled = p.spelled; within = p.within; only = λ b u v x spelled stops there next. p.only b u v x spelled (less v stops) there next }

  pub weaker_err : (ts : List Token) (e : Refusal) → IsRefused s g ts e → IsRefused s h ts e
  weaker_err ts e p = record {
    front = p.front;
    rest = p.rest;
    parts = p.parts;
    plain = p.plain;
    size = p.size;
    more = p.more;
    begins = p.begins;
    why = elim p.why [
      | inl w ↦ inl (w.0, λ b u v x spelled stops there next. w.1 b u v x spelled (less v stops) there next)
      | inr w ↦ inr (w.0, λ b u v x spelled stops there next. w.1 b u v x spelled (less v stops) there next)
    ];
  }
