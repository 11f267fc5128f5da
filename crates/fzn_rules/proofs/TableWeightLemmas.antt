-- What a table weighs at the rows whose values are in the sets of their places.
use Rattle.std.proofs.Common.{◌≡◌, ◌⊎◌, ℕ, suc, ◌+◌, ◌*◌, ◌<◌, true, List, [], ◌∷◌, length, get_or, drop, sym, ap, ◌∙◌, subst, inl, inr, arith, ℤ, pos, Option, None, Some, IfSome}
use Rattle.std.proofs.lemmas.Bool.{cases_Bool, cases_lt}
use Rattle.std.proofs.lemmas.List.{get_or-take, get_or-drop}
use Rattle.fzn_domain.specs.IntSet.{IntSet}
use Rattle.fzn_domain.specs.Narrow.{IsWithin}
use Rattle.fzn_values.specs.declared.term.Term.TheVariants.{Constant}
use Rattle.fzn_meaning.specs.declared.row.TablePart.{TablePart}
use Rattle.fzn_values.specs.Term.{values_of}
use Rattle.fzn_meaning.specs.Separable.{begins_with, row_weight, IsTablePart}
use Rattle.fzn_values.proofs.CallerLemmas.{get_or-values_of}
use Rattle.fzn_meaning.proofs.TableWeightLemmas.{begins-take}
use Rattle.fzn_sets.proofs.CallerLemmas.{MayBe-term_value, length-values_of}
use Rattle.fzn_rules.specs.Separable.{IsLeastOf, IsTableWeightIn}
use Rattle.fzn_rules.specs.Least.{IsRowWeight, lesser, Reaches}
use Rattle.fzn_rules.proofs.LeastLemmas.{least-same, least-or}

-- ---- the rows, one after another

-- what one of the first so many rows weighs
abbrev pub IsRowWeightBefore : List IntSet → TablePart → ℕ → ℤ → Type 0
IsRowWeightBefore sets table count w = (r : ℕ) × (r < count) × IsRowWeight sets table r w

module _ (sets : List IntSet) (table : TablePart) where
  pub rows-none : IsLeastOf (IsRowWeightBefore sets table 0) None
  rows-none w (r, below, at) = omega arith

  pub rows-more : (i : ℕ) (least weight : Option ℤ) → IsLeastOf (IsRowWeightBefore sets table i) least → IsLeastOf (IsRowWeight sets table i) weight → IsLeastOf (IsRowWeightBefore sets table (i + 1)) (lesser least weight)
  rows-more i least weight so_far here =
      least-same (λ w. IsRowWeightBefore sets table i w ⊎ IsRowWeight sets table i w) (IsRowWeightBefore sets table (i + 1)) (lesser least weight)
      (λ w h. elim h [ inl at ↦ (at.0, omega (arith, at.1), at.2) | inr at ↦ (i, omega arith, at) ])
      (λ w at. elim (cases_lt at.0 i) [
        | inl below ↦ inl (at.0, below, at.2)
        | inr past ↦
            let same : at.0 ≡ i = omega (arith, at.1) in
            inr (subst (λ (r : ℕ). IsRowWeight sets table r w) same at.2)
      ])
      (least-or (IsRowWeightBefore sets table i) (IsRowWeight sets table i) least weight so_far here)

  -- the next row weighs no less than the least one
  pub rows-heavy : (i : ℕ) (least : Option ℤ) → IsLeastOf (IsRowWeightBefore sets table i) least → IfSome (get_or table.weights i None) (Reaches least) → IsLeastOf (IsRowWeightBefore sets table (i + 1)) least
  rows-heavy i least so_far heavy = by least so_far heavy
    where
      earlier : (w : ℤ) → IsRowWeightBefore sets table i w → IsRowWeightBefore sets table (i + 1) w
      earlier w (r, below, at) = (r, omega arith, at)

      last : (w : ℤ) → IsRowWeightBefore sets table (i + 1) w → IsRowWeightBefore sets table i w ⊎ (get_or table.weights i None ≡ Some w)
      last w (r, below, at) = elim (cases_lt r i) [
        | inl lt ↦ inl (r, lt, at)
        | inr past ↦
            let same : r ≡ i = omega arith in
            inr (ap (λ (k : ℕ). get_or table.weights k None) (sym same) ∙ at.1)
      ]

      reached : (found : Option ℤ) (w : ℤ) → IfSome (get_or table.weights i None) (Reaches found) → get_or table.weights i None ≡ Some w → Reaches found w
      reached found w h e = subst (λ (o : Option ℤ). IfSome o (Reaches found)) e h

      by : (found : Option ℤ) → IsLeastOf (IsRowWeightBefore sets table i) found → IfSome (get_or table.weights i None) (Reaches found) → IsLeastOf (IsRowWeightBefore sets table (i + 1)) found
      by None none h = λ w at. elim (last w at) [ inl before ↦ none w before | inr here ↦ reached None w h here ]
      by (Some a) (own, first) h = (earlier a own, λ w at. elim (last w at) [ inl before ↦ first w before | inr here ↦ reached (Some a) w h here ])

  pub rows-all : (least : Option ℤ) → IsLeastOf (IsRowWeightBefore sets table (length table.weights)) least → IsLeastOf (IsTableWeightIn sets table) least
  rows-all least h = least-same (IsRowWeightBefore sets table (length table.weights)) (IsTableWeightIn sets table) least
      (λ w at. (at.0, at.2.0, at.1, at.2.1)) (λ w at. (at.0, at.2, (at.1, at.3))) h

-- ---- the row that equals the values

begins_there : (xs numbers : List ℤ) (k : ℕ) → begins_with xs numbers ≡ true → k < length xs → get_or numbers k (pos 0) ≡ get_or xs k (pos 0)
begins_there xs numbers k begins below = sym (get_or-take (length xs) numbers k (pos 0) below) ∙ ap (λ front. get_or front k (pos 0)) (begins-take xs numbers begins)

-- row r is these values
abbrev AreAtRow : List ℤ → List ℤ → ℕ → Type 0
AreAtRow xs rows r = (k : ℕ) → k < length xs → get_or rows (r * length xs + k) (pos 0) ≡ get_or xs k (pos 0)

-- what is listed for the first row that equals the values is listed for some such row
row_there : (xs rows : List ℤ) (weights : List (Option ℤ)) (w : ℤ) → row_weight xs rows weights ≡ Some w → (r : ℕ) × (r < length weights) × (get_or weights r None ≡ Some w) × AreAtRow xs rows r
row_there xs rows [] w is = absurd (cc)
row_there xs rows (weight ∷ weights) w is = elim (cases_Bool (begins_with xs rows)) [
  | inl begins ↦ (0, omega arith, (rw begins at is), λ k below. let first : 0 * length xs + k ≡ k = omega arith in ap (λ (n : ℕ). get_or rows n (pos 0)) first ∙ begins_there xs rows k begins below)
  | inr not ↦
      let later = row_there xs (drop (length xs) rows) weights w (rw not at is) in (
        suc later.0,
        omega (arith, later.1),
        later.2,
        λ k below.
            let next : suc later.0 * length xs + k ≡ length xs + (later.0 * length xs + k) = omega arith in
            ap (λ (n : ℕ). get_or rows n (pos 0)) next ∙ sym (get_or-drop (length xs) rows (later.0 * length xs + k) (pos 0)) ∙ later.3 k below,
      )
]

-- so what the table weighs counts, where the values are in the sets
pub table_weighs : (sets : List IntSet) (values : List ℤ) (table : TablePart) (w : ℤ) → IsWithin sets values → IsTablePart (length sets) table → row_weight (values_of values table.places) table.rows table.weights ≡ Some w → IsTableWeightIn sets table w
table_weighs sets values table w within formed is =
    let places = table.places in
    let at = row_there (values_of values places) table.rows table.weights w is in
    let count : length (values_of values places) ≡ length places = length-values_of values places in
    let there = subst (λ n. (k : ℕ) → k < n → get_or table.rows (at.0 * n + k) (pos 0) ≡ get_or (values_of values places) k (pos 0)) count at.3 in (
      at.0,
      λ k below.
          let value = there k below ∙ get_or-values_of values places k (pos 0) (Constant (pos 0)) below in
          rw value (MayBe-term_value sets values (get_or places k (Constant (pos 0))) within (formed.places k (Constant (pos 0)) below)),
      at.1,
      at.2,
    )
