-- The first two lines are read in one way.
use Rattle.std.proofs.Common.{◌≡◌, ℕ, ◌≤◌, List, [], ◌∷◌, ◌++◌, length, get_or, Some, refl, sym, ap, ◌∙◌, arith, lit<, append_assoc}
use Rattle.std.specs.Prelude.{codes}
use Rattle.std.specs.Fmt.{decimal}
use Rattle.std.proofs.lemmas.Fmt.{length-decimal-le}
use Rattle.std.proofs.lemmas.List.{length-append}
use Rattle.std.proofs.lemmas.List.Folds.{list_all-append}
use Rattle.fzn_meaning.specs.declared.model.Model.{Model}
use Rattle.fzn_cert.specs.declared.limits.TheConstants.{LINE_LIMIT}
use Rattle.fzn_cert.specs.declared.refusal.Refusal.{Refusal}
use Rattle.fzn_cert.specs.declared.refusal.Refusal.TheVariants.{Header as BadHeader, Truncated, LineTooLong, Counts}
use Rattle.fzn_cert.specs.declared.step.Version.{Version}
use Rattle.fzn_cert.specs.declared.step.Version.TheVariants.{One, Two}
use Rattle.fzn_cert.specs.Spelling.{version_text, counts_text, IsSized}
use Rattle.fzn_cert.specs.Reading.{words_of, counts_of}
use Rattle.fzn_cert.specs.Stream.{IsVersionText, IsCountsText}
use Rattle.fzn_cert.specs.Verdict.{IsFirstRefused, IsSecondRefused}
use Rattle.fzn_cert.proofs.WordLaws.{some_is}
use Rattle.fzn_cert.proofs.LineLaws.{IsInside, is_inside, inside_word, plain_decimal}
use Rattle.fzn_cert.proofs.HeaderLaws.{counts_again}
use Rattle.fzn_cert.proofs.OneVerdictLines.{IsLine, same_line, LineFault, one_line_fault, no_line_fault, other_fault, short_fault, long_fault}
use Rattle.fzn_cert.proofs.OneVerdictSteps.{taken_from}

-- ---- the first line

pub version_is_line : (bytes : List ℕ) (version : Version) (rest : List ℕ) → bytes ≡ (version_text version ++ 10 ∷ []) ++ rest → IsLine bytes (version_text version) rest
version_is_line bytes One rest e = record { taken = e; inside = refl; within = omega arith }
version_is_line bytes Two rest e = record { taken = e; inside = refl; within = omega arith }

pub same_version : (v w : Version) → version_text v ≡ version_text w → v ≡ w
same_version One One e = refl
same_version One Two e = absurd (omega (arith, ap (λ (t : List ℕ). get_or t 4 0) e))
same_version Two One e = absurd (omega (arith, ap (λ (t : List ℕ). get_or t 4 0) e))
same_version Two Two e = refl

pub first_fault : (bytes : List ℕ) (a : Refusal) → IsFirstRefused (Some bytes) a → LineFault IsVersionText BadHeader bytes a
first_fault bytes BadHeader (text, begins, none) = other_fault IsVersionText BadHeader bytes text begins none
first_fault bytes Truncated h = short_fault IsVersionText BadHeader bytes h
first_fault bytes LineTooLong h = long_fault IsVersionText BadHeader bytes h
first_fault bytes _ h = absurd h

-- ---- the second

inside_joined : (a b : List ℕ) → IsInside a → IsInside b → IsInside (a ++ b)
inside_joined a b h k = rw (list_all-append is_inside a b, h, k) refl

counts_inside : (n m : ℕ) → IsSized n → IsSized m → IsInside (counts_text n m)
counts_inside n m h k =
    inside_joined (codes "vars " ++ decimal n ++ codes " cons ") (decimal m)
    (inside_joined (codes "vars " ++ decimal n) (codes " cons ") (inside_joined (codes "vars ") (decimal n) refl (inside_word (decimal n) (plain_decimal n h))) refl)
    (inside_word (decimal m) (plain_decimal m k))

counts_within : (n m : ℕ) → IsSized n → IsSized m → length (counts_text n m) ≤ LINE_LIMIT
counts_within n m h k =
    let first = length-decimal-le 18 n (lit< tt) h (omega arith) in
    let second = length-decimal-le 18 m (lit< tt) k (omega arith) in
    omega (arith, first, second, length-append (codes "vars " ++ decimal n ++ codes " cons ") (decimal m), length-append (codes "vars " ++ decimal n) (codes " cons "), length-append (codes "vars ") (decimal n))

pub counts_is_line : (bytes : List ℕ) (n m : ℕ) (rest : List ℕ) → IsSized n → IsSized m → bytes ≡ counts_text n m ++ 10 ∷ rest → IsLine bytes (counts_text n m) rest
counts_is_line bytes n m rest h k e = record { taken = e; inside = counts_inside n m h k; within = counts_within n m h k }

same_counts : (n m k l : ℕ) → IsSized n → IsSized m → IsSized k → IsSized l → counts_text n m ≡ counts_text k l → (n ≡ k) × (m ≡ l)
same_counts n m k l a b c d e =
    let made : ℕ × ℕ = (n, m) in
    let told : ℕ × ℕ = (k, l) in
    let same = some_is made told (sym (counts_again n m a b) ∙ ap (λ (t : List ℕ). counts_of (words_of t)) e ∙ counts_again k l c d) in
    (ap (λ (p : ℕ × ℕ). p.0) same, ap (λ (p : ℕ × ℕ). p.1) same)

-- what is wrong with the second line
pub data WrongCounts (model : Model) (bytes : List ℕ) (a : Refusal) : Type 0 where
  line : LineFault IsCountsText BadHeader bytes a → WrongCounts model bytes a
  counts : a ≡ Counts → (n m : ℕ) (rest : List ℕ) → IsSized n → IsSized m → IsLine bytes (counts_text n m) rest → ((n ≡ length model.vars) × (m ≡ length model.constraints) → ⊥) → WrongCounts model bytes a

module _ (model : Model) (bytes : List ℕ) where
  pub wrong_counts : (a : Refusal) → IsSecondRefused model (Some bytes) a → WrongCounts model bytes a
  wrong_counts BadHeader (text, begins, none) = line (other_fault IsCountsText BadHeader bytes text begins none)
  wrong_counts Truncated h = line (short_fault IsCountsText BadHeader bytes h)
  wrong_counts LineTooLong h = line (long_fault IsCountsText BadHeader bytes h)
  wrong_counts Counts (n, m, h, k, begins, apart) =
      let t = taken_from bytes (counts_text n m ++ 10 ∷ []) (λ _. Unit {0}) begins in
      counts refl n m t.0 h k (counts_is_line bytes n m t.0 h k (t.1 ∙ append_assoc (counts_text n m) (10 ∷ []) t.0)) apart
  wrong_counts _ h = absurd h

  counts_fault : (a : Refusal) (n m : ℕ) (rest : List ℕ) → IsSized n → IsSized m → IsLine bytes (counts_text n m) rest → LineFault IsCountsText BadHeader bytes a → ⊥
  counts_fault a n m rest h k is f = no_line_fault IsCountsText BadHeader bytes a (counts_text n m) rest is (n, m, h, k, refl) f

  pub one_counts : (a b : Refusal) → WrongCounts model bytes a → WrongCounts model bytes b → a ≡ b
  one_counts a b (line f) (line g) = one_line_fault IsCountsText BadHeader bytes a b f g
  one_counts a b (line f) (counts q n m rest h k is apart) = absurd (counts_fault a n m rest h k is f)
  one_counts a b (counts p n m rest h k is apart) (line g) = absurd (counts_fault b n m rest h k is g)
  one_counts a b (counts p n m rest h k is apart) (counts q v c r s t told besides) = p ∙ sym q

  -- a line with the model's counts is not wrong
  pub right_counts : (a : Refusal) (rest : List ℕ) → IsSized (length model.vars) → IsSized (length model.constraints) → IsLine bytes (counts_text (length model.vars) (length model.constraints)) rest → WrongCounts model bytes a → ⊥
  right_counts a rest h k is (line f) = counts_fault a (length model.vars) (length model.constraints) rest h k is f
  right_counts a rest h k is (counts q n m r s t told apart) =
      apart (same_counts n m (length model.vars) (length model.constraints) s t h k (same_line bytes (counts_text n m) (counts_text (length model.vars) (length model.constraints)) r rest told is).0)
