-- Numbers that rise, and rows that are linked from the last one back.
use Rattle.std.proofs.Common.{◌≡◌, ◌≢◌, ℕ, ◌+◌, ◌-◌, ◌*◌, ◌/◌, ◌<◌, ◌≤◌, rules, List, [], ◌∷◌, ◌++◌, length, get_or, set, sym, ap, subst, ◌∙◌, inl, inr, arith, ℤ, pos, ◌<ℤ◌}
use Rattle.std.proofs.Math.Nat.{eq-or-lt_of_le}
use Rattle.std.proofs.lemmas.Int.{ints}
use Rattle.std.proofs.lemmas.Bool.{cases_lt, cases_eq}
use Rattle.std.proofs.lemmas.List.{get_or-set_same, get_or-set_other, get_or_past, get_or_push, get_or_append_left, length_push}
use Rattle.fzn_values.specs.declared.term.Term.{Term}
use Rattle.fzn_table.specs.declared.chains.Chains.{Chains}
use Rattle.fzn_table.specs.Chains.{AreChained, IsColumn, IsChainedAt, AreAllChained}

-- each of the first numbers is below all later ones of them
abbrev pub AreRising : List ℤ → ℕ → Type 0
AreRising xs count = (i j : ℕ) → i < j → j < count → get_or xs i (pos 0) <ℤ get_or xs j (pos 0)

less_trans : (a b c : ℤ) → a <ℤ b → b <ℤ c → a <ℤ c
less_trans a b c first second = omega (arith, ints, first, second)

module _ (xs : List ℤ) where
  below_last : (k i : ℕ) → 1 ≤ k → get_or xs (k - 1) (pos 0) <ℤ get_or xs k (pos 0) → AreRising xs k → i < k → get_or xs i (pos 0) <ℤ get_or xs k (pos 0)
  below_last k i some next rising less =
      let le : i ≤ k - 1 = omega (arith, some, less) in
      elim (eq-or-lt_of_le le) [
        | inl same ↦ subst (λ (n : ℕ). get_or xs n (pos 0) <ℤ get_or xs k (pos 0)) (sym same) next
        | inr before ↦ less_trans (get_or xs i (pos 0)) (get_or xs (k - 1) (pos 0)) (get_or xs k (pos 0)) (rising i (k - 1) before (omega (arith, some))) next
      ]

  pub rising_more : (k : ℕ) → 1 ≤ k → get_or xs (k - 1) (pos 0) <ℤ get_or xs k (pos 0) → AreRising xs k → AreRising xs (k + 1)
  rising_more k some next rising i j less below =
      let le : j ≤ k = omega (arith, below) in
      elim (eq-or-lt_of_le le) [
        | inl same ↦ subst (λ (n : ℕ). get_or xs i (pos 0) <ℤ get_or xs n (pos 0)) (sym same) (below_last k i some next rising (subst (λ (n : ℕ). i < n) same less))
        | inr before ↦ rising i j less before
      ]

  pub rising_apart : (count i j : ℕ) → AreRising xs count → i < j → j < count → get_or xs i (pos 0) ≢ get_or xs j (pos 0)
  rising_apart count i j rising less below same = let h = rising i j less below in omega (arith, ints, h, same)

-- ---- the chains of a place

pub chained_at : (places : List Term) (rows : List ℤ) (p : ℕ) (column : List ℤ) (chains : Chains) → IsColumn places rows p column → AreChained column chains → IsChainedAt places rows p chains
chained_at places rows p column chains is chained = (
  λ i r less whole same. chained.firsts i r less (is r whole ∙ same),
  λ r s more less whole_r whole_s same. chained.nexts r s more less (is s whole_s ∙ same ∙ sym (is r whole_r)),
)

-- ---- rows that are linked from the last one back

-- from this row on, before the first row that is noted for a number none has it
abbrev pub AreFirstsFrom : List ℤ → List ℤ → List ℕ → ℕ → Type 0
AreFirstsFrom column numbers firsts from = (i row : ℕ) → from ≤ row → row < get_or firsts i 0 → get_or column row (pos 0) ≢ get_or numbers i (pos 0)

-- from this row on, between a row and the next that is noted none has its number
abbrev pub AreNextsFrom : List ℤ → List ℕ → ℕ → Type 0
AreNextsFrom column nexts from = (row other : ℕ) → from ≤ row → row < other → other < get_or nexts row 0 → get_or column other (pos 0) ≢ get_or column row (pos 0)

-- numbers at two places are different
abbrev pub AreApart : List ℤ → Type 0
AreApart xs = (i j : ℕ) → i < j → j < length xs → get_or xs i (pos 0) ≢ get_or xs j (pos 0)

module _ (column numbers : List ℤ) (firsts : List ℕ) (from row i : ℕ) (one_each : length firsts ≡ length numbers) (here : row + 1 ≡ from) (below : i < length numbers) (is : get_or numbers i (pos 0) ≡ get_or column row (pos 0)) (before : AreFirstsFrom column numbers firsts from) where
  pub firsts_more : AreApart numbers → AreFirstsFrom column numbers (set firsts i row) row
  firsts_more apart j other after less = elim (cases_eq j i) [
    | inl same ↦
        let at : get_or (set firsts i row) j 0 ≡ row = subst (λ (n : ℕ). get_or (set firsts i row) n 0 ≡ row) (sym same) (get_or-set_same firsts i row 0 (omega (arith, one_each, below))) in
        absurd (omega (arith, after, less, at))
    | inr differ ↦
        let old : other < get_or firsts j 0 = subst (λ (n : ℕ). other < n) (get_or-set_other firsts i j row 0 differ) less in
        elim (eq-or-lt_of_le after) [
          | inl same ↦ λ equal. others_apart apart j differ (inside j other old) (sym equal ∙ ap (λ (n : ℕ). get_or column n (pos 0)) (sym same) ∙ sym is)
          | inr later ↦ before j other (omega (arith, later, here)) old
        ]
  ]
    where
      inside : (j other : ℕ) → other < get_or firsts j 0 → j < length numbers
      inside j other old = elim (cases_lt j (length firsts)) [
        | inl lt ↦ omega (arith, lt, one_each)
        | inr ge ↦ let none = get_or_past firsts j 0 ge in absurd (omega (arith, old, none))
      ]

      others_apart : AreApart numbers → (j : ℕ) → j ≢ i → j < length numbers → get_or numbers j (pos 0) ≡ get_or numbers i (pos 0) → ⊥
      others_apart apart j differ j_below equal = elim (cases_lt j i) [
        | inl lt ↦ apart j i lt below equal
        | inr ge ↦ elim (eq-or-lt_of_le ge) [
          | inl same ↦ differ (sym same)
          | inr gt ↦ apart i j gt j_below (sym equal)
        ]
      ]

  pub nexts_more : (nexts : List ℕ) → row < length nexts → AreNextsFrom column nexts from → AreNextsFrom column (set nexts row (get_or firsts i 0)) row
  nexts_more nexts stands rest r other after less inside = elim (eq-or-lt_of_le after) [
    | inl same ↦
        let at : get_or (set nexts row (get_or firsts i 0)) r 0 ≡ get_or firsts i 0 = subst (λ (n : ℕ). get_or (set nexts row (get_or firsts i 0)) n 0 ≡ get_or firsts i 0) same (get_or-set_same nexts row (get_or firsts i 0) 0 stands) in
        λ equal. before i other (omega (arith, here, less, same)) (omega (arith, inside, at)) (equal ∙ ap (λ (n : ℕ). get_or column n (pos 0)) (sym same) ∙ sym is)
    | inr later ↦
        rest r other (omega (arith, later, here)) less (subst (λ (n : ℕ). other < n) (get_or-set_other nexts row r (get_or firsts i 0) 0 (omega (arith, later))) inside)
  ]

-- ---- a column

-- the number of one row more
pub column_more : (column more rows : List ℤ) (width p r : ℕ) (number : ℤ) → more ≡ column ++ number ∷ [] → length column ≡ r → number ≡ get_or rows (r * width + p) (pos 0) → ((s : ℕ) → s < r → get_or column s (pos 0) ≡ get_or rows (s * width + p) (pos 0)) → (s : ℕ) → s < r + 1 → get_or more s (pos 0) ≡ get_or rows (s * width + p) (pos 0)
column_more column more rows width p r number is len here before s below =
    let le : s ≤ r = omega (arith, below) in
    ap (λ (xs : List ℤ). get_or xs s (pos 0)) is ∙ elim (eq-or-lt_of_le le) [
      | inl same ↦ get_or_push column number (pos 0) s (len ∙ sym same) ∙ here ∙ ap (λ (n : ℕ). get_or rows (n * width + p) (pos 0)) (sym same)
      | inr less ↦ get_or_append_left column (number ∷ []) (pos 0) s (omega (arith, less, len)) ∙ before s less
    ]

-- where a number stands
pub place_below : (r count width p : ℕ) → p < width → r < count / width → r * width + p < count
place_below r count width p inside below =
    let fits : r * width + width ≤ count = search rules in
    omega (arith, inside, fits)

-- a row that is whole is one of them
pub whole_below : (r count width : ℕ) → 0 < width → r * width + width ≤ count → r < count / width
whole_below r count width some whole = search rules

-- the chains of one place more
pub chained_more : (places : List Term) (rows : List ℤ) (all more : List Chains) (chains : Chains) (p : ℕ) → length all ≡ p → more ≡ all ++ chains ∷ [] → IsChainedAt places rows p chains → AreAllChained places rows all → AreAllChained places rows more
chained_more places rows all more chains p one_each is here before q default below =
    let longer = ap length is ∙ length_push all chains in
    let le : q ≤ p = omega (arith, below, longer, one_each) in
    subst (λ (xs : List Chains). IsChainedAt places rows q (get_or xs q default)) (sym is) (elim (eq-or-lt_of_le le) [
      | inl same ↦ subst (IsChainedAt places rows q) (sym (get_or_push all chains default q (one_each ∙ sym same))) (subst (λ (n : ℕ). IsChainedAt places rows n chains) (sym same) here)
      | inr less ↦ subst (IsChainedAt places rows q) (sym (get_or_append_left all (chains ∷ []) default q (omega (arith, less, one_each)))) (before q default (omega (arith, less, one_each)))
    ])
