-- Bytes have one first line, or one fault of it.
use Rattle.std.proofs.Common.{◌≡◌, ℕ, true, ◌+◌, ◌<◌, ◌≤◌, List, [], ◌∷◌, ◌++◌, length, Option, Some, None, refl, sym, ap, subst, ◌∙◌, arith, append_assoc}
use Rattle.std.specs.List.{list_all}
use Rattle.std.specs.Io.KnownBytes.{Consumes, IsAtEnd}
use Rattle.std.proofs.lemmas.List.{append-nil, length-append}
use Rattle.fzn_cert.specs.declared.limits.TheConstants.{LINE_LIMIT}
use Rattle.fzn_cert.specs.declared.refusal.Refusal.{Refusal}
use Rattle.fzn_cert.specs.declared.refusal.Refusal.TheVariants.{Truncated, LineTooLong}
use Rattle.fzn_cert.specs.Stream.{BeginsWithLine, IsTruncated, IsLineTooLong}
use Rattle.fzn_cert.proofs.LineLaws.{and_true, IsInside, is_inside, same_lines}

-- the text before the first line feed
pub record IsLine (bytes text rest : List ℕ) : Type 0 where
  pub taken : bytes ≡ text ++ 10 ∷ rest
  pub inside : IsInside text
  pub within : length text ≤ LINE_LIMIT

pub same_line : (bytes p q x y : List ℕ) → IsLine bytes p x → IsLine bytes q y → (p ≡ q) × (x ≡ y)
same_line bytes p q x y h k = same_lines p q x y h.inside k.inside (sym h.taken ∙ k.taken)

-- the first line has none of these texts, or its line feed is missing, or comes too late
pub data LineFault (IsText : List ℕ → Type 0) (bad : Refusal) (bytes : List ℕ) (a : Refusal) : Type 0 where
  other : a ≡ bad → (text rest : List ℕ) → IsLine bytes text rest → (IsText text → ⊥) → LineFault IsText bad bytes a
  short : a ≡ Truncated → IsInside bytes → length bytes ≤ LINE_LIMIT → LineFault IsText bad bytes a
  long : a ≡ LineTooLong → (text rest : List ℕ) → bytes ≡ text ++ rest → IsInside text → length text ≡ LINE_LIMIT + 1 → LineFault IsText bad bytes a

-- ---- none of them beside another

no_feed : (p x : List ℕ) → IsInside (p ++ 10 ∷ x) → ⊥
no_feed [] x h = absurd cc
no_feed (b ∷ p) x h = no_feed p x (and_true (is_inside b) (list_all is_inside (p ++ 10 ∷ x)) h).1

short_or_line : (bytes text rest : List ℕ) → IsInside bytes → IsLine bytes text rest → ⊥
short_or_line bytes text rest h line = no_feed text rest (subst IsInside line.taken h)

early_feed : (p x t r : List ℕ) → p ++ 10 ∷ x ≡ t ++ r → length p < length t → IsInside t → ⊥
early_feed p x [] r e lt h = absurd (omega arith)
early_feed [] x (c ∷ t) r e lt h =
    let same : 10 ≡ c = cc in
    absurd (subst (λ (b : ℕ). is_inside b ≡ true → ⊥) same (λ u. cc) (and_true (is_inside c) (list_all is_inside t) h).0)
early_feed (b ∷ p) x (c ∷ t) r e lt h =
    let tails : p ++ 10 ∷ x ≡ t ++ r = cc in
    early_feed p x t r tails (omega arith) (and_true (is_inside c) (list_all is_inside t) h).1

long_or_line : (bytes text rest t r : List ℕ) → IsLine bytes text rest → bytes ≡ t ++ r → IsInside t → length t ≡ LINE_LIMIT + 1 → ⊥
long_or_line bytes text rest t r line e h size = early_feed text rest t r (sym line.taken ∙ e) (omega (arith, line.within, size)) h

short_or_long : (bytes t r : List ℕ) → length bytes ≤ LINE_LIMIT → bytes ≡ t ++ r → length t ≡ LINE_LIMIT + 1 → ⊥
short_or_long bytes t r le e size = omega (arith, le, size, ap (λ (xs : List ℕ). length xs) e, length-append t r)

module _ (IsText : List ℕ → Type 0) (bad : Refusal) (bytes : List ℕ) where
  pub one_line_fault : (a b : Refusal) → LineFault IsText bad bytes a → LineFault IsText bad bytes b → a ≡ b
  one_line_fault a b (other p text rest line apart) (other q u r k n) = p ∙ sym q
  one_line_fault a b (other p text rest line apart) (short q h le) = absurd (short_or_line bytes text rest h line)
  one_line_fault a b (other p text rest line apart) (long q t r e h size) = absurd (long_or_line bytes text rest t r line e h size)
  one_line_fault a b (short p h le) (other q text rest line apart) = absurd (short_or_line bytes text rest h line)
  one_line_fault a b (short p h le) (short q k n) = p ∙ sym q
  one_line_fault a b (short p h le) (long q t r e k size) = absurd (short_or_long bytes t r le e size)
  one_line_fault a b (long p t r e h size) (other q text rest line apart) = absurd (long_or_line bytes text rest t r line e h size)
  one_line_fault a b (long p t r e h size) (short q k le) = absurd (short_or_long bytes t r le e size)
  one_line_fault a b (long p t r e h size) (long q u s f k n) = p ∙ sym q

  -- a line of these texts has no fault
  pub no_line_fault : (a : Refusal) (text rest : List ℕ) → IsLine bytes text rest → IsText text → LineFault IsText bad bytes a → ⊥
  no_line_fault a text rest line is (other p u r k apart) = apart (subst IsText (same_line bytes text u rest r line k).0 is)
  no_line_fault a text rest line is (short p h le) = short_or_line bytes text rest h line
  no_line_fault a text rest line is (long p t r e h size) = long_or_line bytes text rest t r line e h size

  -- ---- the words of a verdict

  pub other_fault : (text : List ℕ) → BeginsWithLine (Some bytes) text → (IsText text → ⊥) → LineFault IsText bad bytes bad
  other_fault text h apart = by_rest h.rest h.taken
    where
      by_rest : (rest : Option (List ℕ)) → Consumes (Some bytes) rest (text ++ 10 ∷ []) → LineFault IsText bad bytes bad
      by_rest None taken = absurd taken
      by_rest (Some rest) taken = other refl text rest (record { taken = taken ∙ append_assoc text (10 ∷ []) rest; inside = h.inside; within = h.within }) apart

  pub short_fault : IsTruncated (Some bytes) → LineFault IsText bad bytes Truncated
  short_fault h = by_rest h.rest h.taken h.at_end
    where
      by_rest : (rest : Option (List ℕ)) → Consumes (Some bytes) rest h.text → IsAtEnd rest → LineFault IsText bad bytes Truncated
      by_rest None taken at_end = absurd taken
      by_rest (Some rest) taken at_end =
          let whole : h.text ≡ bytes = sym (taken ∙ ap (λ (t : List ℕ). h.text ++ t) at_end ∙ append-nil h.text) in
          short refl (subst IsInside whole h.inside) (subst (λ (t : List ℕ). length t ≤ LINE_LIMIT) whole h.within)

  pub long_fault : IsLineTooLong (Some bytes) → LineFault IsText bad bytes LineTooLong
  long_fault h = by_rest h.rest h.taken
    where
      by_rest : (rest : Option (List ℕ)) → Consumes (Some bytes) rest h.text → LineFault IsText bad bytes LineTooLong
      by_rest None taken = absurd taken
      by_rest (Some rest) taken = long refl h.text rest taken h.inside h.past
