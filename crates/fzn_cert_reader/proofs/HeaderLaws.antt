-- What reading the first two lines gives.
use Rattle.std.proofs.Common.{◌≡◌, ℕ, ◌^◌, ◌<◌, false, List, [], ◌∷◌, Option, Some, None, sym, ap, subst, ◌∙◌, inl, inr}
use Rattle.std.specs.Prelude.{◌&&◌, codes, IfSome, IfNone}
use Rattle.std.specs.Str.{bytes_eq}
use Rattle.std.specs.Fmt.{decimal}
use Rattle.std.proofs.lemmas.Slice.Eq.{bytes_eq-Decides}
use Rattle.fzn_cert.specs.declared.step.Version.{Version}
use Rattle.fzn_cert.specs.declared.step.Version.TheVariants.{One, Two}
use Rattle.fzn_cert.specs.Spelling.{spaced, version_text, counts_text}
use Rattle.fzn_cert.specs.Stream.{IsVersionText, IsCountsText}
use Rattle.fzn_cert.specs.Words.{◌>>=◌, natural_of}
use Rattle.fzn_cert.specs.Reading.{words_of, counts_of}
use Rattle.fzn_cert.proofs.CallerLemmas.{and_true, some_is, counts_words, counts_text_is, counts_again}
use Rattle.fzn_head.specs.declared.head.Head.{Head}
use Rattle.fzn_head.specs.Head.{head_counts, head_of_words, IsSizedHead, IsHeadCountsText}
use Rattle.fzn_head.proofs.HeadLaws.{head_counts_is, head_again, head_takes}
use Rattle.fzn_cert_line.proofs.CallerLemmas.{spaced-words_of, natural_takes, bind_some, chosen}
use Rattle.fzn_cert_reader.proofs.EndingLaws.{false_true}

apart_from : (line : List ℕ) → bytes_eq line (codes "fzc 1") ≡ false → bytes_eq line (codes "fzc 2") ≡ false → (v : Version) → line ≡ version_text v → ⊥
apart_from line h k One e = false_true (sym h ∙ (bytes_eq-Decides line (codes "fzc 1")).1 e)
apart_from line h k Two e = false_true (sym k ∙ (bytes_eq-Decides line (codes "fzc 2")).1 e)

pub no_version : (line : List ℕ) → bytes_eq line (codes "fzc 1") ≡ false → bytes_eq line (codes "fzc 2") ≡ false → IsVersionText line → ⊥
no_version line h k t = apart_from line h k t.0 t.1

pub record SpellsCounts (words : List (List ℕ)) (n m : ℕ) : Type 0 where
  pub words_are : words ≡ counts_words n m
  pub first : n < 10 ^ 18
  pub second : m < 10 ^ 18

pub counts_take : (words : List (List ℕ)) (x : ℕ × ℕ) → counts_of words ≡ Some x → SpellsCounts words x.0 x.1
unfolding counts_of
counts_take [] x e = absurd cc
counts_take (a ∷ []) x e = absurd cc
counts_take (a ∷ n ∷ []) x e = absurd cc
counts_take (a ∷ n ∷ b ∷ []) x e = absurd cc
counts_take (a ∷ n ∷ b ∷ m ∷ c ∷ rest) x e = absurd cc
counts_take (a ∷ n ∷ b ∷ m ∷ []) x e =
    elim (chosen (bytes_eq a (codes "vars") && bytes_eq b (codes "cons")) (natural_of n >>= λ v. natural_of m >>= λ k. Some (v, k)) None x e) [
      | inl h ↦
          let t = and_true (bytes_eq a (codes "vars")) (bytes_eq b (codes "cons")) h.0 in
          let v = bind_some (natural_of n) (λ v. natural_of m >>= λ k. Some (v, k)) x h.1 in
          let k = bind_some (natural_of m) (λ k. Some (v.0, k)) x v.2 in
          let p = natural_takes n v.0 v.1 in
          let q = natural_takes m k.0 k.1 in
          let made : ℕ × ℕ = (v.0, k.0) in
          subst (λ (y : ℕ × ℕ). SpellsCounts (a ∷ n ∷ b ∷ m ∷ []) y.0 y.1) (some_is made x k.2) (record {
            words_are = ap (λ (w : List ℕ). w ∷ n ∷ b ∷ m ∷ []) ((bytes_eq-Decides a (codes "vars")).0 t.0)
                ∙ ap (λ (w : List ℕ). codes "vars" ∷ w ∷ b ∷ m ∷ []) p.0
                ∙ ap (λ (w : List ℕ). codes "vars" ∷ decimal v.0 ∷ w ∷ m ∷ []) ((bytes_eq-Decides b (codes "cons")).0 t.1)
                ∙ ap (λ (w : List ℕ). codes "vars" ∷ decimal v.0 ∷ codes "cons" ∷ w ∷ []) q.0;
            first = p.1;
            second = q.1;
          })
      | inr h ↦ absurd (none_some x h.1)
    ]
  where
    none_some : (y : ℕ × ℕ) → None ≡ Some y → ⊥
    none_some y h = cc

pub counts_found : (line : List ℕ) (r : Option (ℕ × ℕ)) → r ≡ counts_of (words_of line) → IfSome r (λ x. (line ≡ counts_text x.0 x.1) × ((x.0 < 10 ^ 18) × (x.1 < 10 ^ 18)))
counts_found line None e = tt
counts_found line (Some x) e =
    let s = counts_take (words_of line) x (sym e) in
    (sym (spaced-words_of line) ∙ ap spaced s.words_are ∙ counts_text_is x.0 x.1, (s.first, s.second))

pub counts_none : (line : List ℕ) (r : Option (ℕ × ℕ)) → r ≡ counts_of (words_of line) → IfNone r (IsCountsText line → ⊥)
counts_none line None e = λ t. none_some (t.0, t.1) (e ∙ ap (λ (text : List ℕ). counts_of (words_of text)) t.4 ∙ counts_again t.0 t.1 t.2 t.3)
  where
    none_some : (y : ℕ × ℕ) → None ≡ Some y → ⊥
    none_some y h = cc
counts_none line (Some x) e = tt

-- ---- version three

pub head_found : (line : List ℕ) (r : Option Head) → r ≡ head_of_words (words_of line) → IfSome r (λ head. (line ≡ head_counts head) × IsSizedHead head)
head_found line None e = tt
head_found line (Some head) e =
    let s = head_takes natural_takes (words_of line) head (sym e) in
    (sym (spaced-words_of line) ∙ ap spaced s.words_are ∙ head_counts_is head, s.sized)

pub head_none : (line : List ℕ) (r : Option Head) → r ≡ head_of_words (words_of line) → IfNone r (IsHeadCountsText line → ⊥)
head_none line None e = λ t. none_some t.0 (e ∙ ap (λ (text : List ℕ). head_of_words (words_of text)) t.2 ∙ head_again t.0 t.1)
  where
    none_some : (head : Head) → None ≡ Some head → ⊥
    none_some head h = cc
head_none line (Some head) e = tt
