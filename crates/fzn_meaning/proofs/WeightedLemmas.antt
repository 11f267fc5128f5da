-- The places of two lists side by side.
use Rattle.std.proofs.Common.{◌≡◌, ℕ, ◌<◌, ◌≤◌, ◌∙◌, List, [], ◌∷◌, length, get_or, pos, ap, arith}
use Rattle.std.specs.List.{zip}
use Rattle.std.specs.Prelude.{min}
use Rattle.std.proofs.lemmas.List.{length-map, get_or-map}
use Rattle.std.proofs.lemmas.Slice.Zip.{length-zip, get_or-zip}
use Rattle.fzn_values.specs.declared.term.Term.{Term}
use Rattle.fzn_values.specs.declared.term.Term.TheVariants.{Constant}
use Rattle.fzn_values.specs.declared.term.Place.{Place}
use Rattle.fzn_values.specs.Term.{number_in, weighted}

abbrev product : Term × Term → Place
product pair = record { coefficient = number_in pair.0; term = pair.1 }

abbrev zero : Term
zero = Constant (pos 0)

pub length-weighted : (numbers terms : List Term) → length (weighted numbers terms) ≡ min (length numbers) (length terms)
length-weighted numbers terms = length-map (zip numbers terms) product ∙ length-zip numbers terms

pub place-weighted : (numbers terms : List Term) (i : ℕ) → i < length numbers → i < length terms → get_or (weighted numbers terms) i (record { coefficient = pos 0; term = zero }) ≡ record { coefficient = number_in (get_or numbers i zero); term = get_or terms i zero }
place-weighted numbers terms i in_numbers in_terms =
    get_or-map product (zip numbers terms) i (zero, zero) (record { coefficient = pos 0; term = zero }) (omega (arith, length-zip numbers terms))
    ∙ ap product (get_or-zip numbers terms i (zero, zero) in_numbers in_terms)

pub not_beyond_numbers : (numbers terms : List Term) → length (weighted numbers terms) ≤ length numbers
not_beyond_numbers [] terms = omega arith
not_beyond_numbers (n ∷ numbers) [] = omega arith
not_beyond_numbers (n ∷ numbers) (t ∷ terms) = omega (arith, not_beyond_numbers numbers terms)

pub not_beyond_terms : (numbers terms : List Term) → length (weighted numbers terms) ≤ length terms
not_beyond_terms [] terms = omega arith
not_beyond_terms (n ∷ numbers) [] = omega arith
not_beyond_terms (n ∷ numbers) (t ∷ terms) = omega (arith, not_beyond_terms numbers terms)
