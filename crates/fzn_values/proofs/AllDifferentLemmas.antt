-- Whether a value stands again behind its place, and what marks say of it.
use Rattle.std.proofs.Common.{◌≡◌, ℕ, ◌+◌, ◌-◌, ◌%◌, ◌<◌, ◌≤◌, Bool, true, false, List, length, get_or, take, drop, ap, sym, ◌∙◌, inl, inr, subst, ℤ, pos, unsigned_abs, arith}
use Rattle.std.specs.List.{Contains}
use Rattle.std.proofs.lemmas.List.{get_or-drop, get_or-take, get_or_default, length-drop, length-take-le}
use Rattle.std.proofs.lemmas.Bool.{cases_lt}
use Rattle.fzn_values.specs.AllDifferent.{IsAllDifferent, FrontDiffers, ShareValue, AreMarked}

-- a place behind the first m ones, in the rest
in_rest : (xs : List ℤ) (m k : ℕ) (d : ℤ) → m ≤ k → get_or (drop m xs) (k - m) d ≡ get_or xs k d
in_rest xs m k d h = let e : m + (k - m) ≡ k = omega arith in get_or-drop m xs (k - m) d ∙ ap (λ n. get_or xs n d) e

module _ (xs : List ℤ) where
  -- no value of the list stands again, so none of a part does
  pub front-rest : (m n : ℕ) → IsAllDifferent xs → FrontDiffers n (drop m xs)
  front-rest m n different i j d front before within same =
      let len = length-drop m xs in
      different (m + i) (m + j) d (omega arith) (omega arith) (sym (get_or-drop m xs i d) ∙ same ∙ get_or-drop m xs j d)

  -- the first m values, and those of the first n behind them
  pub front-more : (m n : ℕ) → FrontDiffers m xs → FrontDiffers n (drop m xs) → FrontDiffers (m + n) xs
  front-more m n first rest i j d front before within same =
      let len = length-drop m xs in
      elim (cases_lt i m) [
        | inl inside ↦ first i j d inside before within same
        | inr behind ↦ rest (i - m) (j - m) d (omega arith) (omega arith) (omega arith) (in_rest xs m i d behind ∙ same ∙ sym (in_rest xs m j d (omega arith)))
      ]

  pub front-all : (n : ℕ) → length xs ≤ n → FrontDiffers n xs → IsAllDifferent xs
  front-all n all h i j d before within = h i j d (omega arith) before within

  -- ---- a value, and what stands behind its place

  found_again : (i : ℕ) (d : ℤ) → i < length xs → Contains (drop (i + 1) xs) (get_or xs i d) → IsAllDifferent xs → ⊥
  found_again i d lt (k, h, e) different =
      let len = length-drop (i + 1) xs in
      different i (i + 1 + k) (get_or xs i d) (omega arith) (omega arith)
      (get_or_default xs i (get_or xs i d) d lt ∙ sym e ∙ get_or-drop (i + 1) xs k (get_or xs i d))

  not_again : (n : ℕ) (e : ℤ) → n < length xs → (Contains (drop (n + 1) xs) (get_or xs n e) → ⊥) → FrontDiffers n xs → FrontDiffers (n + 1) xs
  not_again n e lt none first i j d front before within same =
      elim (cases_lt i n) [ inl l ↦ first i j d l before within same | inr l ↦ here (omega arith) ]
    where
      here : i ≡ n → ⊥
      here at =
          let len = length-drop (n + 1) xs in
          none (
            j - (n + 1),
            omega arith,
            in_rest xs (n + 1) j (get_or xs n e) (omega arith)
                ∙ get_or_default xs j (get_or xs n e) d within
                ∙ sym same ∙ ap (λ k. get_or xs k d) at ∙ get_or_default xs n d e lt,
          )

  -- the same of a rest and a value that equal these
  pub found_in : (ys : List ℤ) (x : ℤ) (i : ℕ) → i < length xs → ys ≡ drop (i + 1) xs → x ≡ get_or xs i (pos 0) → Contains ys x → IsAllDifferent xs → ⊥
  found_in ys x i lt e f h = found_again i (pos 0) lt (subst (Contains (drop (i + 1) xs)) f (subst (λ zs. Contains zs x) e h))

  pub not_in : (ys : List ℤ) (x : ℤ) (n : ℕ) → n < length xs → ys ≡ drop (n + 1) xs → x ≡ get_or xs n (pos 0) → (Contains ys x → ⊥) → FrontDiffers n xs → FrontDiffers (n + 1) xs
  not_in ys x n lt e f none = not_again n (pos 0) lt (λ h. none (subst (λ zs. Contains zs x) (sym e) (subst (Contains (drop (n + 1) xs)) (sym f) h)))

  -- ---- the first n values, and the rest

  module _ (n : ℕ) (some : n ≤ length xs) where
    at_front : (i : ℕ) (d : ℤ) → i < n → get_or (take n xs) i d ≡ get_or xs i d
    at_front i d h = get_or-take n xs i d h

    pub front-parts : IsAllDifferent (take n xs) → (ShareValue (take n xs) (drop n xs) → ⊥) → FrontDiffers n xs
    front-parts different none i j d front before within same =
        let len = length-take-le n xs some in
        elim (cases_lt j n) [
          | inl jn ↦ different i j d before (omega arith) (at_front i d front ∙ same ∙ sym (at_front j d jn))
          | inr jn ↦ across jn
        ]
      where
        across : n ≤ j → ⊥
        across jn =
            let len = length-take-le n xs some in
            let rest = length-drop n xs in
            let lt : j - n < length (drop n xs) = omega arith in
            let v : ℤ = get_or (drop n xs) (j - n) (pos 0) in
            none (
              j - n,
              lt,
              (
                i,
                omega arith,
                at_front i (get_or (drop n xs) (j - n) (pos 0)) front
                    ∙ get_or_default xs i (get_or (drop n xs) (j - n) (pos 0)) d (omega arith) ∙ same ∙ sym (in_rest xs n j d jn)
                    ∙ get_or_default (drop n xs) (j - n) d (pos 0) lt,
              ),
            )

    pub parts-front : FrontDiffers n xs → IsAllDifferent (take n xs)
    parts-front h i j d before within same =
        let len = length-take-le n xs some in
        h i j d (omega arith) before (omega arith) (sym (at_front i d (omega arith)) ∙ same ∙ at_front j d (omega arith))

    pub parts-none : FrontDiffers n xs → ShareValue (take n xs) (drop n xs) → ⊥
    parts-none h (k, lt, (i, li, e)) =
        let len = length-take-le n xs some in
        let rest = length-drop n xs in
        let v : ℤ = get_or (drop n xs) k (pos 0) in
        h i (n + k) (get_or (drop n xs) k (pos 0)) (omega arith) (omega arith) (omega arith)
        (sym (at_front i (get_or (drop n xs) k (pos 0)) (omega arith)) ∙ e
        ∙ get_or_default (drop n xs) k (pos 0) (get_or (drop n xs) k (pos 0)) lt
        ∙ get_or-drop n xs k (get_or (drop n xs) k (pos 0)))

-- ---- marks

pub has_mark : (marks : List Bool) (xs : List ℤ) (x : ℤ) → AreMarked marks xs → Contains xs x → get_or marks (unsigned_abs x % 16384) false ≡ true
has_mark marks xs x h (k, lt, e) =
    subst (λ y. get_or marks (unsigned_abs y % 16384) false ≡ true) (get_or_default xs k (pos 0) x lt ∙ e) (h k lt)
