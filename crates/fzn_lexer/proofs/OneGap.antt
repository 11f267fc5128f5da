-- A gap ends in one position alone.
use Rattle.std.proofs.Common.{◌≡◌, ℕ, true, false, not, ◌||◌, ◌==◌, List, [], ◌∷◌, ◌++◌, get_or, drop, refl, sym, ap, subst, ◌∙◌, arith, append_assoc, inl, inr, ◌⊎◌}
use Rattle.std.proofs.lemmas.Bool.{false≢true}
use Rattle.std.proofs.lemmas.Bool.Decides.{nat_tests}
use Rattle.std.proofs.lemmas.List.Elements.{All-tail}
use Rattle.std.specs.List.{AllPass}
use Rattle.fzn_lexer.specs.Bytes.{is_lf, is_white}
use Rattle.fzn_lexer.specs.Tokens.{IsSpacing, IsLastGap, begins_gap, nothing, white, comment}

abbrev NoLf : List ℕ → Type 0
NoLf text = AllPass (λ b. not (is_lf b)) text

-- how a gap begins
abbrev White : List ℕ → Type 0
White bytes = (b : ℕ) × (more : List ℕ) × (bytes ≡ b ∷ more) × (is_white b ≡ true) × IsSpacing more

abbrev Comment : List ℕ → Type 0
Comment bytes = (text : List ℕ) × (more : List ℕ) × (bytes ≡ 37 ∷ text ++ 10 ∷ more) × NoLf text × IsSpacing more

seen : (bytes : List ℕ) → IsSpacing bytes → (bytes ≡ []) ⊎ (White bytes ⊎ Comment bytes)
seen _ nothing = inl refl
seen _ (white {b} {more} is rest) = inr (inl (b, more, refl, is, rest))
seen _ (comment text {more} pass rest) = inr (inr (text, more, refl, pass, rest))

white_begins : (b : ℕ) → is_white b ≡ true → (is_white b || b == 37) ≡ true
white_begins b is = grind (arith, nat_tests)

percent : (b : ℕ) → b ≡ 37 → is_white b ≡ true → ⊥
percent b e is = false≢true (ap is_white (sym e) ∙ is)

first_is : (a b : ℕ) (x y : List ℕ) → a ∷ x ≡ b ∷ y → a ≡ b
first_is a b x y e = ap (λ (z : List ℕ). get_or z 0 0) e

rest_is : (a b : ℕ) (x y : List ℕ) → a ∷ x ≡ b ∷ y → x ≡ y
rest_is a b x y e = ap (drop 1) e

no_lf : (b : ℕ) (more : List ℕ) → b ≡ 10 → NoLf (b ∷ more) → ⊥
no_lf b more e pass = false≢true (ap (λ (n : ℕ). not (is_lf n)) (sym e) ∙ pass 0 0 (omega arith))

no_lf_tail : (b : ℕ) (more : List ℕ) → NoLf (b ∷ more) → NoLf more
no_lf_tail b more pass = All-tail (λ x. not (is_lf x) ≡ true) b more pass

-- the first LF stands in one position
lf_split : (a b x y : List ℕ) → NoLf a → NoLf b → a ++ 10 ∷ x ≡ b ++ 10 ∷ y → (a ≡ b) × (x ≡ y)
lf_split [] [] x y p q e = (refl, rest_is 10 10 x y e)
lf_split [] (c ∷ b) x y p q e = absurd (no_lf c b (sym (first_is 10 c x (b ++ 10 ∷ y) e)) q)
lf_split (c ∷ a) [] x y p q e = absurd (no_lf c a (first_is c 10 (a ++ 10 ∷ x) y e) p)
lf_split (c ∷ a) (d ∷ b) x y p q e =
    let more = lf_split a b x y (no_lf_tail c a p) (no_lf_tail d b q) (rest_is c d (a ++ 10 ∷ x) (b ++ 10 ∷ y) e) in
    (ap (λ (z : ℕ). z ∷ a) (first_is c d (a ++ 10 ∷ x) (b ++ 10 ∷ y) e) ∙ ap (λ (z : List ℕ). d ∷ z) more.0, more.1)

lf_within : (a b x : List ℕ) → NoLf b → a ++ 10 ∷ x ≡ b → ⊥
lf_within [] [] x q e = cc
lf_within [] (c ∷ b) x q e = no_lf c b (sym (first_is 10 c x b e)) q
lf_within (c ∷ a) [] x q e = cc
lf_within (c ∷ a) (d ∷ b) x q e = lf_within a b x (no_lf_tail d b q) (rest_is c d (a ++ 10 ∷ x) b e)

-- a gap that is not empty begins like one
begins : (b : ℕ) (more : List ℕ) → IsSpacing (b ∷ more) → (is_white b || b == 37) ≡ true
begins b more g = elim (seen (b ∷ more) g) [
  | inl e ↦ cc
  | inr (inl w) ↦ white_begins b (ap is_white (first_is b w.0 more w.1 w.2) ∙ w.3)
  | inr (inr c) ↦ ap (λ (n : ℕ). is_white n || n == 37) (first_is b 37 more (c.0 ++ 10 ∷ c.1) c.2)
]

stops : (b : ℕ) (more rest : List ℕ) → IsSpacing (b ∷ more) → begins_gap ((b ∷ more) ++ rest) ≡ false → ⊥
stops b more rest g e = false≢true (sym e ∙ begins b more g)

-- two gaps at the front, which go no further, are the same
pub one_gap : (g h r s : List ℕ) → IsSpacing g → IsSpacing h → g ++ r ≡ h ++ s → begins_gap r ≡ false → begins_gap s ≡ false → g ≡ h
one_gap _ [] r s nothing k e p q = refl
one_gap _ (c ∷ h) r s nothing k e p q = absurd (stops c h s k (ap begins_gap (sym e) ∙ p))
one_gap _ h r s (white {b} {more} is rest) k e p q = elim (seen h k) [
  | inl none ↦ absurd (false≢true (sym q ∙ (ap begins_gap (sym (e ∙ ap (λ (z : List ℕ). z ++ s) none)) ∙ white_begins b is)))
  | inr (inl w) ↦
      let whole : b ∷ more ++ r ≡ w.0 ∷ w.1 ++ s = e ∙ ap (λ (z : List ℕ). z ++ s) w.2 in
      let same = one_gap more w.1 r s rest w.4 (rest_is b w.0 (more ++ r) (w.1 ++ s) whole) p q in
      ap (λ (z : ℕ). z ∷ more) (first_is b w.0 (more ++ r) (w.1 ++ s) whole) ∙ (ap (λ (z : List ℕ). w.0 ∷ z) same ∙ sym w.2)
  | inr (inr c) ↦
      let whole : b ∷ more ++ r ≡ 37 ∷ (c.0 ++ 10 ∷ c.1) ++ s = e ∙ ap (λ (z : List ℕ). z ++ s) c.2 in
      absurd (percent b (first_is b 37 (more ++ r) ((c.0 ++ 10 ∷ c.1) ++ s) whole) is)
]
one_gap _ h r s (comment text {more} pass rest) k e p q = elim (seen h k) [
  | inl none ↦ absurd (false≢true (sym q ∙ ap begins_gap (sym (e ∙ ap (λ (z : List ℕ). z ++ s) none))))
  | inr (inl w) ↦
      let whole : 37 ∷ (text ++ 10 ∷ more) ++ r ≡ w.0 ∷ w.1 ++ s = e ∙ ap (λ (z : List ℕ). z ++ s) w.2 in
      absurd (percent w.0 (sym (first_is 37 w.0 ((text ++ 10 ∷ more) ++ r) (w.1 ++ s) whole)) w.3)
  | inr (inr c) ↦
      let whole : 37 ∷ (text ++ 10 ∷ more) ++ r ≡ 37 ∷ (c.0 ++ 10 ∷ c.1) ++ s = e ∙ ap (λ (z : List ℕ). z ++ s) c.2 in
      let tails = sym (append_assoc text (10 ∷ more) r) ∙ (rest_is 37 37 ((text ++ 10 ∷ more) ++ r) ((c.0 ++ 10 ∷ c.1) ++ s) whole ∙ append_assoc c.0 (10 ∷ c.1) s) in
      let cut = lf_split text c.0 (more ++ r) (c.1 ++ s) pass c.3 tails in
      let same = one_gap more c.1 r s rest c.4 cut.1 p q in
      ap (λ (z : List ℕ). 37 ∷ z ++ 10 ∷ more) cut.0 ∙ (ap (λ (z : List ℕ). 37 ∷ c.0 ++ 10 ∷ z) same ∙ sym c.2)
]

-- ---- the gap at the end of a file

abbrev Open : List ℕ → Type 0
Open bytes = (gap : List ℕ) × (text : List ℕ) × IsSpacing gap × NoLf text × (bytes ≡ gap ++ 37 ∷ text)

last_white : (b : ℕ) (more : List ℕ) → is_white b ≡ true → IsLastGap (b ∷ more) → IsLastGap more
last_white b more is (inl g) = elim (seen (b ∷ more) g) [
  | inl e ↦ cc
  | inr (inl w) ↦ inl (subst IsSpacing (sym (rest_is b w.0 more w.1 w.2)) w.4)
  | inr (inr c) ↦ absurd (percent b (first_is b 37 more (c.0 ++ 10 ∷ c.1) c.2) is)
]
last_white b more is (inr o) = elim (seen o.0 o.2) [
  | inl none ↦ absurd (percent b (first_is b 37 more o.1 (o.4 ∙ ap (λ (z : List ℕ). z ++ 37 ∷ o.1) none)) is)
  | inr (inl w) ↦ inr (w.1, o.1, w.4, o.3, rest_is b w.0 more (w.1 ++ 37 ∷ o.1) (o.4 ∙ ap (λ (z : List ℕ). z ++ 37 ∷ o.1) w.2))
  | inr (inr c) ↦ absurd (percent b (first_is b 37 more ((c.0 ++ 10 ∷ c.1) ++ 37 ∷ o.1) (o.4 ∙ ap (λ (z : List ℕ). z ++ 37 ∷ o.1) c.2)) is)
]

last_comment : (text more : List ℕ) → NoLf text → IsLastGap (37 ∷ text ++ 10 ∷ more) → IsLastGap more
last_comment text more pass (inl g) = elim (seen (37 ∷ text ++ 10 ∷ more) g) [
  | inl e ↦ cc
  | inr (inl w) ↦ absurd (percent w.0 (sym (first_is 37 w.0 (text ++ 10 ∷ more) w.1 w.2)) w.3)
  | inr (inr c) ↦ inl (subst IsSpacing (sym (lf_split text c.0 more c.1 pass c.3 (rest_is 37 37 (text ++ 10 ∷ more) (c.0 ++ 10 ∷ c.1) c.2)).1) c.4)
]
last_comment text more pass (inr o) = elim (seen o.0 o.2) [
  | inl none ↦ absurd (lf_within text o.1 more o.3 (rest_is 37 37 (text ++ 10 ∷ more) o.1 (o.4 ∙ ap (λ (z : List ℕ). z ++ 37 ∷ o.1) none)))
  | inr (inl w) ↦ absurd (percent w.0 (sym (first_is 37 w.0 (text ++ 10 ∷ more) (w.1 ++ 37 ∷ o.1) (o.4 ∙ ap (λ (z : List ℕ). z ++ 37 ∷ o.1) w.2))) w.3)
  | inr (inr c) ↦
      let tails = rest_is 37 37 (text ++ 10 ∷ more) ((c.0 ++ 10 ∷ c.1) ++ 37 ∷ o.1) (o.4 ∙ ap (λ (z : List ℕ). z ++ 37 ∷ o.1) c.2) ∙ append_assoc c.0 (10 ∷ c.1) (37 ∷ o.1) in
      inr (c.1, o.1, c.4, o.3, (lf_split text c.0 more (c.1 ++ 37 ∷ o.1) pass c.3 tails).1)
]

last_behind : (g r : List ℕ) → IsSpacing g → IsLastGap (g ++ r) → IsLastGap r
last_behind _ r nothing l = l
last_behind _ r (white {b} {more} is rest) l = last_behind more r rest (last_white b (more ++ r) is l)
last_behind _ r (comment text {more} pass rest) l = last_behind more r rest (last_comment text (more ++ r) pass (subst IsLastGap (ap (λ (z : List ℕ). 37 ∷ z) (append_assoc text (10 ∷ more) r)) l))

last_begins : (b : ℕ) (more : List ℕ) → IsLastGap (b ∷ more) → (is_white b || b == 37) ≡ true
last_begins b more (inl g) = begins b more g
last_begins b more (inr o) = elim (seen o.0 o.2) [
  | inl none ↦ ap (λ (n : ℕ). is_white n || n == 37) (first_is b 37 more o.1 (o.4 ∙ ap (λ (z : List ℕ). z ++ 37 ∷ o.1) none))
  | inr (inl w) ↦ white_begins b (ap is_white (first_is b w.0 more (w.1 ++ 37 ∷ o.1) (o.4 ∙ ap (λ (z : List ℕ). z ++ 37 ∷ o.1) w.2)) ∙ w.3)
  | inr (inr c) ↦ ap (λ (n : ℕ). is_white n || n == 37) (first_is b 37 more ((c.0 ++ 10 ∷ c.1) ++ 37 ∷ o.1) (o.4 ∙ ap (λ (z : List ℕ). z ++ 37 ∷ o.1) c.2))
]

-- what goes on behind a gap is no end of a file
pub no_last : (g r : List ℕ) → IsSpacing g → IsLastGap (g ++ r) → begins_gap r ≡ false → r ≡ []
no_last g [] gap l stops = refl
no_last g (b ∷ more) gap l stops = absurd (false≢true (sym stops ∙ last_begins b more (last_behind g (b ∷ more) gap l)))
