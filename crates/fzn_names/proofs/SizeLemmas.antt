-- Products that are capped on the way.
use Rattle.std.proofs.Common.{◌≡◌, ◌⊎◌, ℕ, zero, suc, ◌*◌, ◌<◌, ◌≤◌, List, [], ◌∷◌, length, Some, min, inl, inr, refl, ap, ◌∙◌, arith}
use Rattle.fzn_domain.specs.IntSet.{width}
use Rattle.fzn_meaning.specs.declared.model.IndexRange.{IndexRange}
use Rattle.fzn_names.specs.Annotations.{index_range, ranges_in, size_of}
use Rattle.fzn_names.specs.Capped.{capped}
use Rattle.fzn_tree.specs.declared.tree.Ann.{Ann}
use Rattle.fzn_tree.specs.declared.tree.AnnTerm.{AnnTerm}

split : (p : ℕ) → (p ≤ 100001) ⊎ (100001 < p)
split p = grind arith

many : (p k : ℕ) → 100001 < p → min (100001 * suc k) 100001 ≡ min (p * suc k) 100001
many p k h = omega arith

none : (p : ℕ) → min (100001 * 0) 100001 ≡ min (p * 0) 100001
none p = omega arith

at_most : (p c : ℕ) → (p ≤ 100001) ⊎ (100001 < p) → min (min p 100001 * c) 100001 ≡ min (p * c) 100001
at_most p c (inl h) = let same : min p 100001 ≡ p = omega arith in rw same refl
at_most p zero (inr h) = let same : min p 100001 ≡ 100001 = omega arith in rw same (none p)
at_most p (suc k) (inr h) = let same : min p 100001 ≡ 100001 = omega arith in rw same (many p k h)

-- what is beyond the cap may be forgotten before the next factor
pub capped-more : (a b c : ℕ) → capped (capped (a * b) * c) ≡ capped (a * (b * c))
unfolding capped
capped-more a b c = let whole : (a * b) * c ≡ a * (b * c) = omega arith in at_most (a * b) c (split (a * b)) ∙ ap (λ n. min n 100001) whole

pub capped-low : (n : ℕ) → capped n ≤ 100001
unfolding capped
capped-low n = omega arith

pub capped-is : (n count : ℕ) → count ≤ 100000 → capped n ≡ count → n ≡ count
unfolding capped
capped-is n count few e = omega arith

pub is-capped : (n count : ℕ) → count ≤ 100000 → n ≡ count → capped n ≡ count
unfolding capped
is-capped n count few e = omega arith

pub ruleset sizes = (capped-more, capped-low, capped-is, is-capped)

-- one more factor
pub grown-more : (size grown : ℕ) (term : AnnTerm Ann) (r : IndexRange) (more : List (AnnTerm Ann)) → index_range term ≡ Some r → grown ≡ capped (size * width r.low r.high)
    → capped (grown * size_of (ranges_in more)) ≡ capped (size * size_of (ranges_in (term ∷ more)))
grown-more size grown term r more is grown_is = rw (grown_is, is) (capped-more size (width r.low r.high) (size_of (ranges_in more)))

-- no factor is left
pub capped-done : (size total : ℕ) (terms : List (AnnTerm Ann)) → length terms < 1 → size ≤ 100001 → capped (size * size_of (ranges_in terms)) ≡ total → size ≡ total
unfolding capped
capped-done size total [] short low e = omega (arith, e)
capped-done size total (term ∷ terms) short low e = absurd (omega arith)
