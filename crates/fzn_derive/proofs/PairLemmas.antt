-- Two places of a list, and pairs in their order.
use Rattle.std.proofs.Common.{◌≡◌, ◌≢◌, ℕ, zero, suc, ◌+◌, ◌-◌, ◌*◌, ◌<◌, ◌≤◌, List, [], ◌∷◌, ◌++◌, length, get_or, take, drop, map, refl, sym, ap, ◌∙◌, ◌⊎◌, inl, inr, arith, pos, ◌+ℤ◌, length-append, slice_get, Some}
use Rattle.std.specs.List.{Contains, zip}
use Rattle.std.proofs.lemmas.List.{length-map, get_or-take, get_or-drop, length-take, length-drop, length-take-le, take-append-drop}
use Rattle.std.proofs.lemmas.Option.{slice_get_within, get_or_from_slice_get, slice_get-get_or}
use Rattle.fzn_domain.specs.declared.literal.VarId.{VarId}
use Rattle.fzn_values.specs.declared.term.Term.{Term}
use Rattle.fzn_values.specs.declared.term.Term.TheVariants.{Variable}
use Rattle.fzn_values.specs.declared.term.Place.{Place}
use Rattle.fzn_derive.specs.Apart.{StandApart, CancelOut, two_by_two, pairs_cited}

-- ---- two places with opposite coefficients

pub opposite_two : (places : List Place) → CancelOut places → length places ≡ 2
opposite_two [] h = absurd h
opposite_two (first ∷ []) h = absurd h
opposite_two (first ∷ second ∷ []) h = refl
opposite_two (first ∷ second ∷ third ∷ rest) h = absurd h

pub opposite_from : (places : List Place) (d : Place) → length places ≡ 2 → (get_or places 0 d).coefficient +ℤ (get_or places 1 d).coefficient ≡ pos 0 → (get_or places 0 d).coefficient ≢ pos 0 → CancelOut places
opposite_from [] d two sum some = absurd (omega arith)
opposite_from (first ∷ []) d two sum some = absurd (omega arith)
opposite_from (first ∷ second ∷ []) d two sum some = (sum, some)
opposite_from (first ∷ second ∷ third ∷ rest) d two sum some = absurd (omega arith)

pub opposite_says : (places : List Place) (d : Place) → CancelOut places → ((get_or places 0 d).coefficient +ℤ (get_or places 1 d).coefficient ≡ pos 0) × ((get_or places 0 d).coefficient ≢ pos 0)
opposite_says [] d h = absurd h
opposite_says (first ∷ []) d h = absurd h
opposite_says (first ∷ second ∷ []) d h = h
opposite_says (first ∷ second ∷ third ∷ rest) d h = absurd h

pub two_terms : (places : List Place) (d : Place) → length places ≡ 2 → map (λ (place : Place). place.term) places ≡ (get_or places 0 d).term ∷ (get_or places 1 d).term ∷ []
two_terms [] d two = absurd (omega arith)
two_terms (first ∷ []) d two = absurd (omega arith)
two_terms (first ∷ second ∷ []) d two = refl
two_terms (first ∷ second ∷ third ∷ rest) d two = absurd (omega arith)

-- ---- two variables at two places

-- one at a place, the other before it or behind it
pub stand_before : (terms : List Term) (x y : VarId) (p : ℕ) → slice_get terms p ≡ Some (Variable x) → Contains (take p terms) (Variable y) → StandApart terms x y
stand_before terms x y p at_p (k, lt, is) =
    let short = length-take p terms in
    let below : k < p = omega arith in
    let inside : k < length terms = omega arith in
    let at_k = slice_get-get_or terms k (Variable y) inside ∙ ap Some (sym (get_or-take p terms k (Variable y) below) ∙ is) in
    (p, k, (λ e. absurd (omega arith)), at_p, at_k)

pub stand_behind : (terms : List Term) (x y : VarId) (p : ℕ) → slice_get terms p ≡ Some (Variable x) → Contains (drop (p + 1) terms) (Variable y) → StandApart terms x y
stand_behind terms x y p at_p (k, lt, is) =
    let short = length-drop (p + 1) terms in
    let inside : p + 1 + k < length terms = omega arith in
    let at_k = slice_get-get_or terms (p + 1 + k) (Variable y) inside ∙ ap Some (sym (get_or-drop (p + 1) terms k (Variable y)) ∙ is) in
    (p, p + 1 + k, (λ e. absurd (omega arith)), at_p, at_k)

-- where the two stand at two places, the other does so beside any place of the one
pub stand_beside : (terms : List Term) (x y : VarId) (p : ℕ) → slice_get terms p ≡ Some (Variable x) → StandApart terms x y → Contains (take p terms) (Variable y) ⊎ Contains (drop (p + 1) terms) (Variable y)
stand_beside terms x y p at_p (i, j, apart, at_i, at_j) = by_order (order j p)
  where
    order : (j p : ℕ) → (j < p) ⊎ ((p < j) ⊎ (j ≡ p))
    order j p = grind arith

    elsewhere : (k : ℕ) → slice_get terms k ≡ Some (Variable y) → (k < p) ⊎ (p < k) → Contains (take p terms) (Variable y) ⊎ Contains (drop (p + 1) terms) (Variable y)
    elsewhere k at_k (inl below) =
        let within = slice_get_within terms k (Variable y) at_k in
        let short = length-take p terms in
        inl (k, omega arith, get_or-take p terms k (Variable y) below ∙ get_or_from_slice_get terms k (Variable y) (Variable y) at_k)
    elsewhere k at_k (inr above) =
        let within = slice_get_within terms k (Variable y) at_k in
        let short = length-drop (p + 1) terms in
        let there : p + 1 + (k - (p + 1)) ≡ k = omega arith in
        inr (k - (p + 1), omega arith, get_or-drop (p + 1) terms (k - (p + 1)) (Variable y) ∙ ap (λ (n : ℕ). get_or terms n (Variable y)) there ∙ get_or_from_slice_get terms k (Variable y) (Variable y) at_k)

    by_order : (j < p) ⊎ ((p < j) ⊎ (j ≡ p)) → Contains (take p terms) (Variable y) ⊎ Contains (drop (p + 1) terms) (Variable y)
    by_order (inl below) = elsewhere j at_j (inl below)
    by_order (inr (inl above)) = elsewhere j at_j (inr above)
    by_order (inr (inr same)) =
        let both : Some (Variable x) ≡ Some (Variable y) = sym at_p ∙ ap (slice_get terms) (sym same) ∙ at_j in
        elsewhere i (at_i ∙ both) (aside i (λ e. apart (e ∙ sym same)))
      where
        aside : (i : ℕ) → i ≢ p → (i < p) ⊎ (p < i)
        aside i apart = grind arith

-- ---- pairs

-- there are n (n - 1) / 2 of them
pub pairs_counted : {A : Type 0} (xs : List A) → 2 * length (two_by_two xs) + length xs ≡ length xs * length xs
pairs_counted [] = refl
pairs_counted {A} (x ∷ xs) =
    let rest = pairs_counted xs in
    let whole = length-append (map (λ (y : A). (x, y)) xs) (two_by_two xs) in
    let firsts = length-map xs (λ (y : A). (x, y)) in
    by_numbers (length xs) (length (two_by_two xs)) (length (two_by_two (x ∷ xs))) rest (whole ∙ ap (λ (n : ℕ). n + length (two_by_two xs)) firsts)
  where
    squares : (n : ℕ) → suc n * suc n ≡ n * n + 2 * n + 1
    squares n = omega arith

    by_numbers : (n l m : ℕ) → 2 * l + n ≡ n * n → m ≡ n + l → 2 * m + suc n ≡ suc n * suc n
    by_numbers n l m h e = let square = squares n in omega arith

pub zip-append : {A B : Type 0} (xs ys : List A) (us vs : List B) → length us ≡ length xs → zip (xs ++ ys) (us ++ vs) ≡ zip xs us ++ zip ys vs
zip-append [] ys [] vs same = refl
zip-append [] ys (u ∷ us) vs same = absurd (omega arith)
zip-append (x ∷ xs) ys [] vs same = absurd (omega arith)
zip-append {A} {B} (x ∷ xs) ys (u ∷ us) vs same = ap (λ (pairs : List (A × B)). (x, u) ∷ pairs) (zip-append xs ys us vs (omega arith))

pub length-zip : {A B : Type 0} (xs : List A) (us : List B) → length us ≡ length xs → length (zip xs us) ≡ length xs
length-zip [] [] same = refl
length-zip [] (u ∷ us) same = refl
length-zip (x ∷ xs) [] same = absurd (omega arith)
length-zip (x ∷ xs) (u ∷ us) same = ap suc (length-zip xs us (omega arith))

-- the pairs of one variable with others
abbrev pub paired : VarId → List VarId → List (VarId × VarId)
paired x ys = map (λ (other : VarId). (x, other)) ys

pub length-paired : (x : VarId) (ys : List VarId) (ids : List ℕ) → length ids ≡ length ys → length (zip (paired x ys) ids) ≡ length ys
length-paired x ys ids same = length-zip (paired x ys) ids (same ∙ sym (length-map ys (λ (other : VarId). (x, other)))) ∙ length-map ys (λ (other : VarId). (x, other))

pub get_or-paired : (x : VarId) (ys : List VarId) (ids : List ℕ) (k : ℕ) (y : VarId) (id : ℕ) → length ids ≡ length ys → get_or (zip (paired x ys) ids) k ((x, y), id) ≡ ((x, get_or ys k y), get_or ids k id)
get_or-paired x [] [] k y id same = refl
get_or-paired x [] (id' ∷ ids) k y id same = absurd (omega arith)
get_or-paired x (y' ∷ ys) [] k y id same = absurd (omega arith)
get_or-paired x (y' ∷ ys) (id' ∷ ids) zero y id same = refl
get_or-paired x (y' ∷ ys) (id' ∷ ids) (suc k) y id same = get_or-paired x ys ids k y id (omega arith)

-- the pairs of a first variable with the others come before those of the others
pub pairs_cited-first : (x : VarId) (ys : List VarId) (ids : List ℕ) → length ys ≤ length ids → pairs_cited (x ∷ ys) ids ≡ zip (paired x ys) (take (length ys) ids) ++ pairs_cited ys (drop (length ys) ids)
pairs_cited-first x ys ids enough =
    ap (zip (paired x ys ++ two_by_two ys)) (sym (take-append-drop (length ys) ids))
    ∙ zip-append (paired x ys) (two_by_two ys) (take (length ys) ids) (drop (length ys) ids) (length-take-le (length ys) ids enough ∙ sym (length-map ys (λ (other : VarId). (x, other))))
