-- Words that are read are what is written.
use Rattle.std.proofs.Common.{◌≡◌, ℕ, zero, suc, ◌≤◌, true, cond, eqb, List, [], ◌∷◌, ◌++◌, length, get_or, take, drop, map, Option, Some, None, refl, sym, ap, subst, ◌∙◌, arith, inl, inr}
use Rattle.std.specs.Prelude.{ℤ, pos, negsuc, neg_ℤ, codes, nat_eq}
use Rattle.std.specs.List.{AllByRecursion, starts_with}
use Rattle.std.specs.Str.{bytes_eq}
use Rattle.std.specs.Fmt.{decimal, signed_decimal}
use Rattle.std.proofs.lemmas.Int.{ints}
use Rattle.std.proofs.lemmas.Bool.{eqb-true}
use Rattle.std.proofs.lemmas.List.{take-append-drop}
use Rattle.std.proofs.lemmas.Slice.Eq.{bytes_eq-Decides}
use Rattle.fzn_domain.specs.declared.literal.Op.{Op}
use Rattle.fzn_domain.specs.declared.literal.Op.TheVariants.{AtMost, AtLeast, Equal, NotEqual}
use Rattle.fzn_domain.specs.declared.literal.Lit.{Lit}
use Rattle.fzn_cert.specs.Spelling.{op_text, literal_text, IsBetween, IsNumber, IsValue, IsHint, IsLiteral}
use Rattle.fzn_cert.specs.Words.{◌>>=◌, natural_of, positive_of, integer_of, is_between, integer_within, value_spelled, hint_of, op_at, digits_len, literal_of, items_of, items_before_mark}
use Rattle.fzn_cert.proofs.CallerLemmas.{some_is}
use Rattle.fzn_cert_line.proofs.OptionLaws.{bind_some, guard_some, guard_none, chosen}
use Rattle.fzn_cert_line.proofs.NumberLaws.{natural_takes}

-- ---- numbers

pub number_takes : (word : List ℕ) (n : ℕ) → positive_of word ≡ Some n → (word ≡ decimal n) × IsNumber n
unfolding positive_of
number_takes word n e =
    let a = bind_some (natural_of word) (λ m. cond (eqb m 0) None (Some m)) n e in
    let g = guard_none (eqb a.0 0) a.0 n a.2 in
    let t = natural_takes word a.0 a.1 in
    let some : 1 ≤ a.0 = grind (arith, g.0) in
    subst (λ (m : ℕ). (word ≡ decimal m) × IsNumber m) g.1 (t.0, (some, t.1))

signed_again : (word : List ℕ) → get_or word 0 0 ≡ 45 → word ≡ 45 ∷ drop 1 word
signed_again [] h = absurd cc
signed_again (b ∷ bs) h = ap (λ (x : ℕ). x ∷ bs) h

negated_text : (n : ℕ) → 1 ≤ n → 45 ∷ decimal n ≡ signed_decimal (neg_ℤ (pos n))
negated_text zero h = absurd (omega arith)
negated_text (suc n) h = refl

pub integer_takes : (word : List ℕ) (z : ℤ) → integer_of word ≡ Some z → word ≡ signed_decimal z
unfolding integer_of
integer_takes word z e =
    elim (chosen (eqb (get_or word 0 0) 45) (positive_of (drop 1 word) >>= λ n. Some (neg_ℤ (pos n))) (natural_of word >>= λ n. Some (pos n)) z e) [
      | inl h ↦
          let a = bind_some (positive_of (drop 1 word)) (λ n. Some (neg_ℤ (pos n))) z h.1 in
          let t = number_takes (drop 1 word) a.0 a.1 in
          signed_again word (eqb-true (get_or word 0 0) 45 h.0) ∙ ap (λ (ds : List ℕ). 45 ∷ ds) t.0 ∙ negated_text a.0 t.1.0 ∙ ap signed_decimal (some_is (neg_ℤ (pos a.0)) z a.2)
      | inr h ↦
          let a = bind_some (natural_of word) (λ n. Some (pos n)) z h.1 in
          (natural_takes word a.0 a.1).0 ∙ ap signed_decimal (some_is (pos a.0) z a.2)
    ]

pub within_takes : (low high : ℤ) (word : List ℕ) (z : ℤ) → integer_within low high word ≡ Some z → (word ≡ signed_decimal z) × IsBetween low high z
unfolding integer_within
within_takes low high word z e =
    let a = bind_some (integer_of word) (λ y. cond (is_between low high y) (Some y) None) z e in
    let g = guard_some (is_between low high a.0) a.0 z a.2 in
    let t = integer_takes word a.0 a.1 in
    subst (λ (y : ℤ). (word ≡ signed_decimal y) × IsBetween low high y) g.1 (t, grind (arith, ints, g.0))

pub hint_takes : (word : List ℕ) (z : ℤ) → hint_of word ≡ Some z → (word ≡ signed_decimal z) × IsHint z
hint_takes word z e = within_takes (negsuc 3999999999) (pos 4000000000) word z e

pub value_takes : (word : List ℕ) (z : ℤ) → value_spelled word ≡ Some z → (word ≡ signed_decimal z) × IsValue z
value_takes word z e = within_takes (negsuc 1000000000) (pos 1000000001) word z e

-- ---- literals

starts_takes : (text front : List ℕ) → length front ≡ 2 → starts_with nat_eq text front ≡ true → text ≡ front ++ drop 2 text
starts_takes text front two h =
    let same : take 2 text ≡ front = sym ((bytes_eq-Decides front (take 2 text)).0 (rw two at h)) in
    sym (take-append-drop 2 text) ∙ ap (λ (t : List ℕ). t ++ drop 2 text) same

pub op_takes : (text : List ℕ) (x : Op × List ℕ) → op_at text ≡ Some x → text ≡ op_text x.0 ++ x.1
unfolding op_at
op_takes text x e =
    elim (chosen (starts_with nat_eq text (codes "<=")) (Some (AtMost, drop 2 text)) _ x e) [
      | inl h ↦ starts_takes text (codes "<=") refl h.0 ∙ ap (λ (y : Op × List ℕ). op_text y.0 ++ y.1) (some_is (AtMost, drop 2 text) x h.1)
      | inr h ↦ elim (chosen (starts_with nat_eq text (codes ">=")) (Some (AtLeast, drop 2 text)) _ x h.1) [
        | inl h ↦ starts_takes text (codes ">=") refl h.0 ∙ ap (λ (y : Op × List ℕ). op_text y.0 ++ y.1) (some_is (AtLeast, drop 2 text) x h.1)
        | inr h ↦ elim (chosen (starts_with nat_eq text (codes "==")) (Some (Equal, drop 2 text)) _ x h.1) [
          | inl h ↦ starts_takes text (codes "==") refl h.0 ∙ ap (λ (y : Op × List ℕ). op_text y.0 ++ y.1) (some_is (Equal, drop 2 text) x h.1)
          | inr h ↦
              let g = guard_some (starts_with nat_eq text (codes "!=")) (NotEqual, drop 2 text) x h.1 in
              starts_takes text (codes "!=") refl g.0 ∙ ap (λ (y : Op × List ℕ). op_text y.0 ++ y.1) g.1
        ]
      ]
    ]

pub literal_takes : (word : List ℕ) (lit : Lit) → literal_of word ≡ Some lit → (word ≡ literal_text lit) × IsLiteral lit
unfolding literal_of
literal_takes word lit e =
    let k = digits_len word in
    let a = bind_some (positive_of (take k word)) (λ var. op_at (drop k word) >>= λ op. value_spelled op.1 >>= λ value. Some (record { var = record { 0 = var }; op = op.0; value = value })) lit e in
    let b = bind_some (op_at (drop k word)) (λ op. value_spelled op.1 >>= λ value. Some (record { var = record { 0 = a.0 }; op = op.0; value = value })) lit a.2 in
    let d = bind_some (value_spelled b.0.1) (λ value. Some (record { var = record { 0 = a.0 }; op = b.0.0; value = value })) lit b.2 in
    let made : Lit = record { var = record { 0 = a.0 }; op = b.0.0; value = d.0 } in
    let n = number_takes (take k word) a.0 a.1 in
    let o = op_takes (drop k word) b.0 b.1 in
    let v = value_takes b.0.1 d.0 d.1 in
    let whole : word ≡ literal_text made =
    sym (take-append-drop k word) ∙ ap (λ (t : List ℕ). t ++ drop k word) n.0
    ∙ ap (λ (t : List ℕ). decimal a.0 ++ t) (o ∙ ap (λ (t : List ℕ). op_text b.0.0 ++ t) v.0) in
    subst (λ (l : Lit). (word ≡ literal_text l) × IsLiteral l) (some_is made lit d.2) (whole, (n.1, v.1))

-- ---- words in a row

pub items_take : {A : Type 0} (f : List ℕ → Option A) (text : A → List ℕ) (P : A → Type 0) → ((word : List ℕ) (x : A) → f word ≡ Some x → (word ≡ text x) × P x)
    → (words : List (List ℕ)) (xs : List A) → items_of f words ≡ Some xs → (words ≡ map text xs) × AllByRecursion P xs
unfolding items_of
items_take {A} f text P takes [] xs e = subst (λ (ys : List A). ([] ≡ map text ys) × AllByRecursion P ys) (some_is [] xs e) (refl, tt)
items_take {A} f text P takes (word ∷ words) xs e =
    let a = bind_some (f word) (λ first. items_of f words >>= λ others. Some (first ∷ others)) xs e in
    let b = bind_some (items_of f words) (λ others. Some (a.0 ∷ others)) xs a.2 in
    let one = takes word a.0 a.1 in
    let more = items_take f text P takes words b.0 b.1 in
    let made : List A = a.0 ∷ b.0 in
    subst (λ (ys : List A). (word ∷ words ≡ map text ys) × AllByRecursion P ys) (some_is made xs b.2)
    (ap (λ (w : List ℕ). w ∷ words) one.0 ∙ ap (λ (ws : List (List ℕ)). text a.0 ∷ ws) more.0, (one.1, more.1))

pub marked_take : {A : Type 0} (f : List ℕ → Option A) (text : A → List ℕ) (P : A → Type 0) → ((word : List ℕ) (x : A) → f word ≡ Some x → (word ≡ text x) × P x)
    → (words : List (List ℕ)) (r : List A × List (List ℕ)) → items_before_mark f words ≡ Some r → (words ≡ map text r.0 ++ codes ";" ∷ r.1) × AllByRecursion P r.0
unfolding items_before_mark
marked_take {A} f text P takes [] r e = absurd cc
marked_take {A} f text P takes (word ∷ words) r e =
    elim (chosen (bytes_eq word (codes ";")) (Some ([], words)) (f word >>= λ first. items_before_mark f words >>= λ others. Some (first ∷ others.0, others.1)) r e) [
      | inl h ↦
          subst (λ (y : List A × List (List ℕ)). (word ∷ words ≡ map text y.0 ++ codes ";" ∷ y.1) × AllByRecursion P y.0) (some_is ([], words) r h.1)
          (ap (λ (w : List ℕ). w ∷ words) ((bytes_eq-Decides word (codes ";")).0 h.0), tt)
      | inr h ↦
          let a = bind_some (f word) (λ first. items_before_mark f words >>= λ others. Some (first ∷ others.0, others.1)) r h.1 in
          let b = bind_some (items_before_mark f words) (λ others. Some (a.0 ∷ others.0, others.1)) r a.2 in
          let one = takes word a.0 a.1 in
          let more = marked_take f text P takes words b.0 b.1 in
          let made : List A × List (List ℕ) = (a.0 ∷ b.0.0, b.0.1) in
          subst (λ (y : List A × List (List ℕ)). (word ∷ words ≡ map text y.0 ++ codes ";" ∷ y.1) × AllByRecursion P y.0) (some_is made r b.2)
          (ap (λ (w : List ℕ). w ∷ words) one.0 ∙ ap (λ (ws : List (List ℕ)). text a.0 ∷ ws) more.0, (one.1, more.1))
    ]
