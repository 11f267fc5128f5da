-- What a table weighs at the first row that equals values.
use Rattle.std.proofs.Common.{◌≡◌, ℕ, ◌+◌, ◌*◌, ◌<◌, ◌≤◌, Bool, true, false, ◌&&◌, cond, List, [], ◌∷◌, length, get_or, take, drop, refl, sym, ap, ◌∙◌, subst, arith, ℤ, pos, Option, None, Some, IsTrue}
use Rattle.std.specs.Ordering.{int_eq}
use Rattle.std.proofs.lemmas.Bool.{and_from, and_parts}
use Rattle.std.proofs.lemmas.Bool.Decides.{Decides-int_eq}
use Rattle.std.proofs.lemmas.List.{drop_more, drop-drop}
use Rattle.fzn_values.specs.Table.{row_at}
use Rattle.fzn_meaning.specs.Separable.{begins_with, row_weight}

-- numbers that begin with the values have them in front
pub begins-take : (xs ys : List ℤ) → begins_with xs ys ≡ true → take (length xs) ys ≡ xs
begins-take [] ys h = refl
begins-take (x ∷ xs) [] h = absurd (cc)
begins-take (x ∷ xs) (y ∷ ys) h =
    let both = and_parts (int_eq y x) (begins_with xs ys) h in
    ap (λ (k : ℤ). k ∷ take (length xs) ys) ((Decides-int_eq y x).0 both.0) ∙ ap (λ (zs : List ℤ). x ∷ zs) (begins-take xs ys both.1)

pub take-begins : (xs ys : List ℤ) → take (length xs) ys ≡ xs → begins_with xs ys ≡ true
take-begins [] ys h = refl
take-begins (x ∷ xs) [] h = absurd (cc)
take-begins (x ∷ xs) (y ∷ ys) h = and_from (int_eq y x) (begins_with xs ys) ((Decides-int_eq y x).1 (cc)) (take-begins xs ys (cc))

off : (b : Bool) → (b ≡ true → ⊥) → b ≡ false
off true h = absurd (h refl)
off false h = refl

pub not-begins : (xs ys : List ℤ) → (take (length xs) ys ≡ xs → ⊥) → begins_with xs ys ≡ false
not-begins xs ys h = off (begins_with xs ys) (λ is. h (begins-take xs ys is))

next_start : (r n : ℕ) → r * n + n ≡ (r + 1) * n
next_start r n = omega arith

module _ (xs rows : List ℤ) (weights : List (Option ℤ)) (r : ℕ) (inside : r < length weights) where
  split : row_weight xs (drop (r * length xs) rows) (drop r weights) ≡ cond (begins_with xs (drop (r * length xs) rows)) (get_or weights r None) (row_weight xs (drop (length xs) (drop (r * length xs) rows)) (drop (r + 1) weights))
  split = ap (row_weight xs (drop (r * length xs) rows)) (drop_more weights r None inside)

  -- the row at this index equals the values
  pub row_weight-at : begins_with xs (drop (r * length xs) rows) ≡ true → row_weight xs (drop (r * length xs) rows) (drop r weights) ≡ get_or weights r None
  row_weight-at is = split ∙ ap (λ (b : Bool). cond b (get_or weights r None) (row_weight xs (drop (length xs) (drop (r * length xs) rows)) (drop (r + 1) weights))) is

  -- it does not, and the next ones count
  pub row_weight-on : begins_with xs (drop (r * length xs) rows) ≡ false → row_weight xs (drop (r * length xs) rows) (drop r weights) ≡ row_weight xs (drop ((r + 1) * length xs) rows) (drop (r + 1) weights)
  row_weight-on is =
      split
      ∙ ap (λ (b : Bool). cond b (get_or weights r None) (row_weight xs (drop (length xs) (drop (r * length xs) rows)) (drop (r + 1) weights))) is
      ∙ ap (λ (zs : List ℤ). row_weight xs zs (drop (r + 1) weights)) (drop-drop (length xs) (r * length xs) rows ∙ ap (λ (k : ℕ). drop k rows) (next_start r (length xs)))
