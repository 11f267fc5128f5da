-- The counts of a head are read as they are written, and a line has at most one head.
use Rattle.std.proofs.Common.{◌≡◌, ℕ, ◌^◌, ◌<◌, ◌≤◌, Bool, true, false, cond, List, [], ◌∷◌, ◌++◌, length, Option, Some, None, refl, sym, ap, subst, ◌∙◌, arith, lit<, append_assoc}
use Rattle.std.specs.Prelude.{◌&&◌, codes}
use Rattle.std.specs.Str.{bytes_eq}
use Rattle.std.specs.Fmt.{decimal}
use Rattle.std.proofs.lemmas.Fmt.{length-decimal-le}
use Rattle.std.proofs.lemmas.List.{length-append}
use Rattle.std.proofs.lemmas.Slice.Eq.{bytes_eq-Decides}
use Rattle.fzn_derive.specs.declared.derivation.Derivation.{Derivation}
use Rattle.fzn_cert.specs.declared.limits.TheConstants.{LINE_LIMIT}
use Rattle.fzn_cert.specs.Spelling.{spaced}
use Rattle.fzn_cert.specs.Words.{◌>>=◌, natural_of}
use Rattle.fzn_cert.specs.Reading.{words_of}
use Rattle.fzn_cert.proofs.NumberLaws.{natural_again}
use Rattle.fzn_cert.proofs.WordLaws.{some_is}
use Rattle.fzn_cert.proofs.LineLaws.{and_true, ArePlain, plain_decimal, words_of-spaced, IsInside, inside_joined}
use Rattle.fzn_head.specs.declared.head.Head.{Head}
use Rattle.fzn_head.specs.Head.{three_line, head_counts_line, derivation_line, derivation_lines, IsSizedHead, head_counts, head_words, head_of_numbers, head_of_words}

-- one space between each two words
pub head_counts_is : (head : Head) → spaced (head_words head) ≡ head_counts head
unfolding spaced
head_counts_is head = sym (regrouped (codes "vars ") (decimal head.variables) (codes " cons ") (decimal head.constraints) (codes " new ") (decimal head.derived))
  where
    regrouped : (a b c d e f : List ℕ) → (((a ++ b) ++ c) ++ d) ++ (e ++ f) ≡ a ++ (b ++ (c ++ (d ++ (e ++ f))))
    regrouped a b c d e f = simp append_assoc

plain_head : (head : Head) → IsSizedHead head → ArePlain (head_words head)
plain_head head h = (refl, (plain_decimal head.variables h.0, (refl, (plain_decimal head.constraints h.1, (refl, (plain_decimal head.derived h.2, tt))))))

-- what is written is read again
pub head_again : (head : Head) → IsSizedHead head → head_of_words (words_of (head_counts head)) ≡ Some head
unfolding head_of_words
head_again head h =
    ap (λ (t : List ℕ). head_of_words (words_of t)) (sym (head_counts_is head))
    ∙ ap head_of_words (words_of-spaced (head_words head) (omega arith) (plain_head head h))
    ∙ rw (natural_again head.variables h.0, natural_again head.constraints h.1, natural_again head.derived h.2) refl

pub same_head : (a b : Head) → IsSizedHead a → IsSizedHead b → head_counts a ≡ head_counts b → a ≡ b
same_head a b h k e = some_is a b (sym (head_again a h) ∙ ap (λ (t : List ℕ). head_of_words (words_of t)) e ∙ head_again b k)

-- ---- as it is written

pub head_text_is : (variables constraints derived : ℕ) →
    (three_line ++ codes "vars ") ++ (decimal variables ++ (codes " cons " ++ (decimal constraints ++ (codes " new " ++ (decimal derived ++ 10 ∷ [])))))
    ≡ three_line ++ head_counts_line (record { variables = variables; constraints = constraints; derived = derived })
head_text_is variables constraints derived = regrouped three_line (codes "vars ") (decimal variables) (codes " cons ") (decimal constraints) (codes " new ") (decimal derived) (10 ∷ [])
  where
    regrouped : (t a b c d e f g : List ℕ) → (t ++ a) ++ (b ++ (c ++ (d ++ (e ++ (f ++ g))))) ≡ t ++ (((((a ++ b) ++ c) ++ d) ++ (e ++ f)) ++ g)
    regrouped t a b c d e f g = simp append_assoc

-- ---- it is a line

pub head_inside : (head : Head) → IsSizedHead head → IsInside (head_counts head)
unfolding spaced
head_inside head h = subst IsInside (head_counts_is head) (inside_joined (head_words head) (plain_head head h))

pub head_within : (head : Head) → IsSizedHead head → length (head_counts head) ≤ LINE_LIMIT
head_within head h =
    let first = length-decimal-le 18 head.variables (lit< tt) h.0 (omega (arith, h.0)) in
    let second = length-decimal-le 18 head.constraints (lit< tt) h.1 (omega (arith, h.1)) in
    let third = length-decimal-le 18 head.derived (lit< tt) h.2 (omega (arith, h.2)) in
    let front = codes "vars " ++ decimal head.variables in
    omega (
      arith,
      first,
      second,
      third,
      length-append (front ++ codes " cons " ++ decimal head.constraints) (codes " new " ++ decimal head.derived),
      length-append (codes " new ") (decimal head.derived),
      length-append (front ++ codes " cons ") (decimal head.constraints),
      length-append front (codes " cons "),
      length-append (codes "vars ") (decimal head.variables),
    )

-- ---- the lines that derive constraints

pub derivation_lines-append : (first second : List Derivation) → derivation_lines (first ++ second) ≡ derivation_lines first ++ derivation_lines second
derivation_lines-append [] second = refl
derivation_lines-append (derivation ∷ later) second =
    ap (λ (t : List ℕ). derivation_line derivation ++ t) (derivation_lines-append later second)
    ∙ sym (append_assoc (derivation_line derivation) (derivation_lines later) (derivation_lines second))

-- ---- what is read was written so

pub record SpellsHead (words : List (List ℕ)) (head : Head) : Type 0 where
  pub words_are : words ≡ head_words head
  pub sized : IsSizedHead head

-- each numeral is what is written for its number
module _ (takes : (word : List ℕ) (n : ℕ) → natural_of word ≡ Some n → (word ≡ decimal n) × (n < 10 ^ 18)) where
  bind_some : {A B : Type 0} (o : Option A) (f : A → Option B) (y : B) → (o >>= f) ≡ Some y → (x : A) × (o ≡ Some x) × (f x ≡ Some y)
  bind_some None f y e = absurd cc
  bind_some (Some x) f y e = (x, refl, e)

  chosen : (b : Bool) (o : Option Head) (head : Head) → cond b o None ≡ Some head → (b ≡ true) × (o ≡ Some head)
  chosen true o head e = (refl, e)
  chosen false o head e = absurd cc

  numbers_take : (n m k : List ℕ) (head : Head) → head_of_numbers n m k ≡ Some head → SpellsHead (codes "vars" ∷ n ∷ codes "cons" ∷ m ∷ codes "new" ∷ k ∷ []) head
  numbers_take n m k head e =
      let with_derived : ℕ → ℕ → ℕ → Option Head = λ v c d. Some (record { variables = v; constraints = c; derived = d }) in
      let v = bind_some (natural_of n) (λ v. natural_of m >>= λ c. natural_of k >>= λ d. with_derived v c d) head e in
      let c = bind_some (natural_of m) (λ c. natural_of k >>= λ d. with_derived v.0 c d) head v.2 in
      let d = bind_some (natural_of k) (λ d. with_derived v.0 c.0 d) head c.2 in
      let made : Head = record { variables = v.0; constraints = c.0; derived = d.0 } in
      let p = takes n v.0 v.1 in
      let q = takes m c.0 c.1 in
      let r = takes k d.0 d.1 in
      subst (SpellsHead (codes "vars" ∷ n ∷ codes "cons" ∷ m ∷ codes "new" ∷ k ∷ [])) (some_is made head d.2) (record {
        words_are = ap (λ (w : List ℕ). codes "vars" ∷ w ∷ codes "cons" ∷ m ∷ codes "new" ∷ k ∷ []) p.0
            ∙ ap (λ (w : List ℕ). codes "vars" ∷ decimal v.0 ∷ codes "cons" ∷ w ∷ codes "new" ∷ k ∷ []) q.0
            ∙ ap (λ (w : List ℕ). codes "vars" ∷ decimal v.0 ∷ codes "cons" ∷ decimal c.0 ∷ codes "new" ∷ w ∷ []) r.0;
        sized = (p.1, q.1, r.1);
      })

  pub head_takes : (words : List (List ℕ)) (head : Head) → head_of_words words ≡ Some head → SpellsHead words head
  unfolding head_of_words
  head_takes [] head e = absurd cc
  head_takes (a ∷ []) head e = absurd cc
  head_takes (a ∷ n ∷ []) head e = absurd cc
  head_takes (a ∷ n ∷ b ∷ []) head e = absurd cc
  head_takes (a ∷ n ∷ b ∷ m ∷ []) head e = absurd cc
  head_takes (a ∷ n ∷ b ∷ m ∷ c ∷ []) head e = absurd cc
  head_takes (a ∷ n ∷ b ∷ m ∷ c ∷ k ∷ d ∷ rest) head e = absurd cc
  head_takes (a ∷ n ∷ b ∷ m ∷ c ∷ k ∷ []) head e =
      let g = chosen (bytes_eq a (codes "vars") && bytes_eq b (codes "cons") && bytes_eq c (codes "new")) (head_of_numbers n m k) head e in
      let t = and_true (bytes_eq a (codes "vars") && bytes_eq b (codes "cons")) (bytes_eq c (codes "new")) g.0 in
      let s = and_true (bytes_eq a (codes "vars")) (bytes_eq b (codes "cons")) t.0 in
      let words : a ∷ n ∷ b ∷ m ∷ c ∷ k ∷ [] ≡ codes "vars" ∷ n ∷ codes "cons" ∷ m ∷ codes "new" ∷ k ∷ [] =
      ap (λ (w : List ℕ). w ∷ n ∷ b ∷ m ∷ c ∷ k ∷ []) ((bytes_eq-Decides a (codes "vars")).0 s.0)
      ∙ ap (λ (w : List ℕ). codes "vars" ∷ n ∷ w ∷ m ∷ c ∷ k ∷ []) ((bytes_eq-Decides b (codes "cons")).0 s.1)
      ∙ ap (λ (w : List ℕ). codes "vars" ∷ n ∷ codes "cons" ∷ m ∷ w ∷ k ∷ []) ((bytes_eq-Decides c (codes "new")).0 t.1) in
      subst (λ (ws : List (List ℕ)). SpellsHead ws head) (sym words) (numbers_take n m k head g.1)
