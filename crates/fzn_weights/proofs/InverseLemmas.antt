-- Lists in which one value is raised.
use Rattle.std.proofs.Common.{◌≡◌, ℕ, zero, suc, ◌+◌, ◌<◌, true, List, [], ◌∷◌, ◌++◌, length, get_or, refl, sym, ap, ◌∙◌, arith, ℤ, pos, ◌+ℤ◌, Bool, false, nat_eq, w64, to_z, of_z, FitsSigned, Option, None, Some, IfSome}
use Rattle.std.specs.Ordering.{int_eq}
use Rattle.std.proofs.Math.Numerals.{add-one}
use Rattle.std.proofs.lemmas.Int.{ints, to_z-of_z}
use Rattle.std.proofs.lemmas.Bool.{eq-eqb, eqb-true}
use Rattle.std.proofs.lemmas.Bool.Decides.{nat_tests, Decides-int_eq}
use Rattle.fzn_meaning.specs.declared.row.Listed.{Listed}
use Rattle.fzn_meaning.specs.Separable.{listed_at, IsWithinLimit}
use Rattle.fzn_weights.specs.Limits.{is_row_number, is_entry_within}
use Rattle.fzn_weights.specs.Inverses.{raised_entry, raised_from}

pub one_on : (low : ℤ) (k : ℕ) → (low +ℤ pos 1) +ℤ pos k ≡ low +ℤ pos (suc k)
one_on low k = omega (arith, ints)

pub none_on : (low : ℤ) → low +ℤ pos 0 ≡ low
none_on low = omega (arith, ints)

module _ (value : ℤ) (more : Option ℤ) (old : Option Listed) where
  abbrev pub Raised : ℤ → Option ℤ
  Raised at = raised_entry (int_eq at value) (listed_at old at) more

  pub length-raised : (low : ℤ) (count : ℕ) → length (raised_from low count value more old) ≡ count
  length-raised low zero = refl
  length-raised low (suc count) = ap (λ (n : ℕ). suc n) (length-raised (low +ℤ pos 1) count)

  pub raised-at : (low : ℤ) (count k : ℕ) → k < count → get_or (raised_from low count value more old) k None ≡ Raised (low +ℤ pos k)
  raised-at low zero k inside = absurd (omega arith)
  raised-at low (suc count) zero inside = ap Raised (sym (none_on low))
  raised-at low (suc count) (suc k) inside = raised-at (low +ℤ pos 1) count k (omega arith) ∙ ap Raised (one_on low k)

  raised-push : (low : ℤ) (count : ℕ) → raised_from low (suc count) value more old ≡ raised_from low count value more old ++ Raised (low +ℤ pos count) ∷ []
  raised-push low zero = ap (λ (v : ℤ). Raised v ∷ []) (sym (none_on low))
  raised-push low (suc count) =
      ap (λ (es : List (Option ℤ)). Raised low ∷ es) (raised-push (low +ℤ pos 1) count
      ∙ ap (λ (v : ℤ). raised_from (low +ℤ pos 1) count value more old ++ Raised v ∷ []) (one_on low count))

  pub raised-more : (low : ℤ) (count : ℕ) (at : ℤ) (entry : Option ℤ) → at ≡ low +ℤ pos count → entry ≡ Raised at → raised_from low (count + 1) value more old ≡ raised_from low count value more old ++ entry ∷ []
  raised-more low count at entry at_is is =
      ap (λ (n : ℕ). raised_from low n value more old) (add-one count) ∙ raised-push low count
      ∙ ap (λ (v : ℤ). raised_from low count value more old ++ Raised v ∷ []) (sym at_is)
      ∙ ap (λ (e : Option ℤ). raised_from low count value more old ++ e ∷ []) (sym is)

pub entry-within : (entry : Option ℤ) → IfSome entry IsWithinLimit → is_entry_within entry ≡ true
entry-within None h = refl
entry-within (Some w) h = within w h
  where
    within : (n : ℤ) → IsWithinLimit n → is_row_number n ≡ true
    within n h = grind (arith, nat_tests)

-- the machine's test of two numbers is the test of the numbers
pub same_test : (x y : ℤ) → FitsSigned w64 x → FitsSigned w64 y → nat_eq (of_z w64 x) (of_z w64 y) ≡ int_eq x y
same_test x y x_fits y_fits = both_ways (nat_eq (of_z w64 x) (of_z w64 y)) (int_eq x y)
    (λ same. (Decides-int_eq x y).1 (sym (to_z-of_z w64 x x_fits) ∙ ap (to_z w64) (eqb-true (of_z w64 x) (of_z w64 y) same) ∙ to_z-of_z w64 y y_fits))
    (λ same. eq-eqb (of_z w64 x) (of_z w64 y) (ap (of_z w64) ((Decides-int_eq x y).0 same)))
  where
    both_ways : (a b : Bool) → (a ≡ true → b ≡ true) → (b ≡ true → a ≡ true) → a ≡ b
    both_ways true b f g = sym (f refl)
    both_ways false true f g = g refl
    both_ways false false f g = refl
