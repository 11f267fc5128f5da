-- Counts that are written are read again.
use Rattle.std.proofs.Common.{◌≡◌, ℕ, ◌^◌, ◌<◌, List, [], ◌∷◌, ◌++◌, Some, refl, sym, ap, ◌∙◌, arith, append_assoc}
use Rattle.std.specs.Prelude.{codes}
use Rattle.std.specs.Fmt.{decimal}
use Rattle.fzn_cert.specs.Spelling.{spaced, counts_text}
use Rattle.fzn_cert.specs.Reading.{words_of, counts_of}
use Rattle.fzn_cert.proofs.NumberLaws.{natural_again}
use Rattle.fzn_cert.proofs.LineLaws.{plain_decimal, words_of-spaced}

abbrev pub counts_words : ℕ → ℕ → List (List ℕ)
counts_words n m = codes "vars" ∷ decimal n ∷ codes "cons" ∷ decimal m ∷ []

pub counts_text_is : (n m : ℕ) → spaced (counts_words n m) ≡ counts_text n m
unfolding spaced
counts_text_is n m = sym (regrouped (codes "vars ") (decimal n) (codes " cons ") (decimal m))
  where
    regrouped : (a b c d : List ℕ) → ((a ++ b) ++ c) ++ d ≡ a ++ (b ++ (c ++ d))
    regrouped a b c d = simp append_assoc

pub counts_again : (n m : ℕ) → n < 10 ^ 18 → m < 10 ^ 18 → counts_of (words_of (counts_text n m)) ≡ Some (n, m)
unfolding counts_of
counts_again n m h k =
    ap (λ (t : List ℕ). counts_of (words_of t)) (sym (counts_text_is n m))
    ∙ ap counts_of (words_of-spaced (counts_words n m) (omega arith) (refl, (plain_decimal n h, (refl, (plain_decimal m k, tt)))))
    ∙ rw (natural_again n h, natural_again m k) refl
