-- Coefficients and constants of places, one place after another.
use Rattle.std.proofs.Common.{◌≡◌, ℕ, List, [], ◌∷◌, ◌++◌, refl, pos, ◌+ℤ◌}
use Rattle.fzn_values.specs.declared.term.Place.{Place}
use Rattle.fzn_builtin_rules.proofs.CallerLemmas.{total_by-cons, total_by-append}
use Rattle.fzn_derive.specs.Merged.{own_coefficient, coefficient_of, own_constant, constant_of}

pub coefficient_of-nil : (n : ℕ) → coefficient_of n [] ≡ pos 0
unfolding coefficient_of
coefficient_of-nil n = refl

pub coefficient_of-cons : (n : ℕ) (p : Place) (places : List Place) → coefficient_of n (p ∷ places) ≡ own_coefficient n p.coefficient p.term +ℤ coefficient_of n places
unfolding coefficient_of
coefficient_of-cons n p places = total_by-cons (λ (place : Place). own_coefficient n place.coefficient place.term) p places

pub coefficient_of-append : (n : ℕ) (front back : List Place) → coefficient_of n (front ++ back) ≡ coefficient_of n front +ℤ coefficient_of n back
unfolding coefficient_of
coefficient_of-append n front back = total_by-append (λ (place : Place). own_coefficient n place.coefficient place.term) front back

pub constant_of-nil : constant_of [] ≡ pos 0
unfolding constant_of
constant_of-nil = refl

pub constant_of-cons : (p : Place) (places : List Place) → constant_of (p ∷ places) ≡ own_constant p.coefficient p.term +ℤ constant_of places
unfolding constant_of
constant_of-cons p places = total_by-cons (λ (place : Place). own_constant place.coefficient place.term) p places

pub constant_of-append : (front back : List Place) → constant_of (front ++ back) ≡ constant_of front +ℤ constant_of back
unfolding constant_of
constant_of-append front back = total_by-append (λ (place : Place). own_constant place.coefficient place.term) front back
