-- Rising lists of variables with the same members are one list.
use Rattle.std.proofs.Common.{◌≡◌, ◌↔◌, zero, suc, ◌<◌, List, [], ◌∷◌, refl, sym, ap, subst, arith}
use Rattle.std.specs.List.{AllPairs, Contains}
use Rattle.fzn_domain.specs.declared.literal.VarId.{VarId}

abbrev pub IsRising : List VarId → Type 0
IsRising vars = AllPairs (λ (a b : VarId). a.0 < b.0) vars

module _ (x : VarId) (xs : List VarId) (rising : IsRising (x ∷ xs)) where
  -- the first is below each other
  below_others : (v : VarId) → Contains xs v → x.0 < v.0
  below_others v (k, inside, e) = subst (λ (w : VarId). x.0 < w.0) e (rising 0 (suc k) v (omega arith) (omega arith))

  rest_rising : IsRising xs
  rest_rising i j d i_below j_inside = rising (suc i) (suc j) d (omega arith) (omega arith)

-- each is the least
same_first : (x y : VarId) (xs ys : List VarId) → IsRising (x ∷ xs) → IsRising (y ∷ ys) → Contains (y ∷ ys) x → Contains (x ∷ xs) y → x ≡ y
same_first x y xs ys rx ry (zero, inside, e) there = sym e
same_first x y xs ys rx ry (suc k, inside, e) (zero, there, f) = f
same_first x y xs ys rx ry (suc k, inside, e) (suc m, there, f) =
    let up = below_others y ys ry x (k, omega arith, e) in
    let down = below_others x xs rx y (m, omega arith, f) in
    absurd (omega arith)

-- what is above the first stands behind it
behind_first : (y : VarId) (ys : List VarId) (v : VarId) → y.0 < v.0 → Contains (y ∷ ys) v → Contains ys v
behind_first y ys v above (zero, inside, e) = let same : y.0 ≡ v.0 = ap (λ (w : VarId). w.0) e in absurd (omega arith)
behind_first y ys v above (suc k, inside, e) = (k, omega arith, e)

moved : (x y : VarId) (xs ys : List VarId) → IsRising (x ∷ xs) → x ≡ y → ((v : VarId) → Contains (x ∷ xs) v → Contains (y ∷ ys) v) → (v : VarId) → Contains xs v → Contains ys v
moved x y xs ys rising same into v (k, inside, e) =
    let above : x.0 < v.0 = below_others x xs rising v (k, inside, e) in
    behind_first y ys v (subst (λ (w : VarId). w.0 < v.0) same above) (into v (suc k, omega arith, e))

pub same_rising : (xs ys : List VarId) → IsRising xs → IsRising ys → ((v : VarId) → Contains xs v ↔ Contains ys v) → xs ≡ ys
same_rising [] [] rx ry same = refl
same_rising [] (y ∷ ys) rx ry same = let h = (same y).1 (0, omega arith, refl) in absurd (omega (arith, h.1))
same_rising (x ∷ xs) [] rx ry same = let h = (same x).0 (0, omega arith, refl) in absurd (omega (arith, h.1))
same_rising (x ∷ xs) (y ∷ ys) rx ry same =
    let first : x ≡ y = same_first x y xs ys rx ry ((same x).0 (0, omega arith, refl)) ((same y).1 (0, omega arith, refl)) in
    let into = moved x y xs ys rx first (λ v. (same v).0) in
    let back = moved y x ys xs ry (sym first) (λ v. (same v).1) in
    let rest : xs ≡ ys = same_rising xs ys (rest_rising x xs rx) (rest_rising y ys ry) (λ v. (into v, back v)) in
    cc
