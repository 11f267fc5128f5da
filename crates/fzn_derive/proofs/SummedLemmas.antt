-- Multiples, one after another.
use Rattle.std.proofs.Common.{◌≡◌, List, [], ◌∷◌, ◌++◌, refl, arith, ℤ, pos, ◌+ℤ◌, ◌-ℤ◌}
use Rattle.std.specs.List.{fold}
use Rattle.std.proofs.lemmas.Int.{ints}
use Rattle.std.proofs.lemmas.List.Concat.{flat_map-append}
use Rattle.std.proofs.lemmas.List.Sums.{fold_push}
use Rattle.fzn_meaning.specs.declared.constraint.Constraint.{Constraint}
use Rattle.fzn_cited.specs.declared.multiple.Multiple.{Multiple}
use Rattle.fzn_derive.specs.Merged.{constant_of}
use Rattle.fzn_derive.specs.Summed.{scaled, scaled_bound, scaled_all, scaled_bounds, bound_left}

module _ (given : List Constraint) where
  fold_from : (a : ℤ) (multiples : List Multiple) → fold (λ (sum : ℤ) (m : Multiple). sum +ℤ scaled_bound given m) a multiples ≡ a +ℤ fold (λ (sum : ℤ) (m : Multiple). sum +ℤ scaled_bound given m) (pos 0) multiples
  fold_from a [] = omega (arith, ints)
  fold_from a (m ∷ multiples) =
      let here = fold_from (a +ℤ scaled_bound given m) multiples in
      let there = fold_from (pos 0 +ℤ scaled_bound given m) multiples in
      omega (arith, ints)

  pub scaled_all-nil : scaled_all given [] ≡ []
  unfolding scaled_all
  scaled_all-nil = refl

  pub scaled_all-cons : (m : Multiple) (multiples : List Multiple) → scaled_all given (m ∷ multiples) ≡ scaled given m ++ scaled_all given multiples
  unfolding scaled_all
  scaled_all-cons m multiples = refl

  pub scaled_bounds-nil : scaled_bounds given [] ≡ pos 0
  unfolding scaled_bounds
  scaled_bounds-nil = refl

  pub scaled_bounds-cons : (m : Multiple) (multiples : List Multiple) → scaled_bounds given (m ∷ multiples) ≡ scaled_bound given m +ℤ scaled_bounds given multiples
  unfolding scaled_bounds
  scaled_bounds-cons m multiples = let e = fold_from (pos 0 +ℤ scaled_bound given m) multiples in omega (arith, ints)

  pub scaled_all-push : (multiples : List Multiple) (m : Multiple) → scaled_all given (multiples ++ m ∷ []) ≡ scaled_all given multiples ++ (scaled given m ++ [])
  unfolding scaled_all
  scaled_all-push multiples m = flat_map-append (scaled given) multiples (m ∷ [])

  pub scaled_bounds-push : (multiples : List Multiple) (m : Multiple) → scaled_bounds given (multiples ++ m ∷ []) ≡ scaled_bounds given multiples +ℤ scaled_bound given m
  unfolding scaled_bounds
  scaled_bounds-push multiples m = fold_push (λ (sum : ℤ) (n : Multiple). sum +ℤ scaled_bound given n) (pos 0) multiples m

  pub bound_left-is : (multiples : List Multiple) → bound_left given multiples ≡ scaled_bounds given multiples -ℤ constant_of (scaled_all given multiples)
  unfolding bound_left
  bound_left-is multiples = refl
