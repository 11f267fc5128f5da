-- Changes that go from place to place with a number.
use Rattle.std.proofs.Common.{◌≡◌, ℕ, suc, ◌+◌, ◌<◌, List, [], ◌∷◌, ◌++◌, length, get_or, take, drop, refl, sym, ap, ◌∙◌, inl, inr, ◌⊎◌, arith, ℤ, pos, ◌+ℤ◌, Option, Result, Ok, Err}
use Rattle.std.proofs.lemmas.List.{take_more, drop_more, take-append-drop, length-take}
use Rattle.fzn_values.specs.declared.term.Term.{Term}
use Rattle.fzn_meaning.specs.declared.row.VariablePart.{VariablePart}
use Rattle.fzn_meaning.specs.Separable.{weight_at}
use Rattle.fzn_cited.specs.declared.fault.DeriveFault.{DeriveFault}
use Rattle.fzn_cited.specs.declared.fault.DeriveFault.TheVariants.{Memory}
use Rattle.fzn_weights.proofs.InverseLemmas.{one_on, none_on}
use Rattle.fzn_row.specs.Draft.{Draft, and_then}
use Rattle.fzn_row.specs.Inverses.{place_raised, places_raised}

module _ (part : VariablePart) (count : ℕ) (value : ℤ) where
  raise_append : (number : ℤ) (draft : Draft) (xs ys : List Term)
      → places_raised part count value number draft (xs ++ ys) ≡ and_then (places_raised part count value number draft xs) (λ next. places_raised part count value (number +ℤ pos (length xs)) next ys)
  raise_append number draft [] ys = ap (λ (n : ℤ). places_raised part count value n draft ys) (sym (none_on number))
  raise_append number draft (x ∷ xs) ys = step (place_raised count value (weight_at part number) draft x) (λ next. raise_append (number +ℤ pos 1) next xs ys
      ∙ ap (λ (m : ℤ). and_then (places_raised part count value (number +ℤ pos 1) next xs) (λ n. places_raised part count value m n ys)) (one_on number (length xs)))
    where
      step : (first : Result Draft DeriveFault)
          → ((next : Draft) → places_raised part count value (number +ℤ pos 1) next (xs ++ ys) ≡ and_then (places_raised part count value (number +ℤ pos 1) next xs) (λ n. places_raised part count value (number +ℤ pos (suc (length xs))) n ys))
          → and_then first (λ next. places_raised part count value (number +ℤ pos 1) next (xs ++ ys))
          ≡ and_then (and_then first (λ next. places_raised part count value (number +ℤ pos 1) next xs)) (λ n. places_raised part count value (number +ℤ pos (suc (length xs))) n ys)
      step (Ok next) rest = rest next
      step (Err fault) rest = refl

  raise_one : (number : ℤ) (draft : Draft) (x : Term) (first : Result Draft DeriveFault) → place_raised count value (weight_at part number) draft x ≡ first → places_raised part count value number draft (x ∷ []) ≡ first
  raise_one number draft x (Ok next) is = ap (λ (r : Result Draft DeriveFault). and_then r (λ next. places_raised part count value (number +ℤ pos 1) next [])) is
  raise_one number draft x (Err fault) is = ap (λ (r : Result Draft DeriveFault). and_then r (λ next. places_raised part count value (number +ℤ pos 1) next [])) is

  raise_first : (number : ℤ) (draft : Draft) (x : Term) (xs : List Term) (fault : DeriveFault) → place_raised count value (weight_at part number) draft x ≡ Err fault → places_raised part count value number draft (x ∷ xs) ≡ Err fault
  raise_first number draft x xs fault is = ap (λ (r : Result Draft DeriveFault). and_then r (λ next. places_raised part count value (number +ℤ pos 1) next xs)) is

  module _ (draft current : Draft) (xs : List Term) (i : ℕ) (d : Term) (number at : ℤ) (inside : i < length xs) (at_is : at ≡ number +ℤ pos i) (more : Option ℤ) (more_is : more ≡ weight_at part at) (so_far : places_raised part count value number draft (take i xs) ≡ Ok current) where
    there : number +ℤ pos (length (take i xs)) ≡ at
    there = let count : length (take i xs) ≡ i = omega (arith, length-take i xs) in ap (λ (n : ℕ). number +ℤ pos n) count ∙ sym at_is

    weighed_here : (result : Result Draft DeriveFault) → place_raised count value more current (get_or xs i d) ≡ result → place_raised count value (weight_at part at) current (get_or xs i d) ≡ result
    weighed_here result is = ap (λ (m : Option ℤ). place_raised count value m current (get_or xs i d)) (sym more_is) ∙ is

    pub raise-more : (next : Draft) → place_raised count value more current (get_or xs i d) ≡ Ok next → places_raised part count value number draft (take (i + 1) xs) ≡ Ok next
    raise-more next is =
        ap (places_raised part count value number draft) (take_more xs i d inside) ∙ raise_append number draft (take i xs) (get_or xs i d ∷ [])
        ∙ ap (λ (r : Result Draft DeriveFault). and_then r (λ n. places_raised part count value (number +ℤ pos (length (take i xs))) n (get_or xs i d ∷ []))) so_far
        ∙ ap (λ (n : ℤ). places_raised part count value n current (get_or xs i d ∷ [])) there
        ∙ raise_one at current (get_or xs i d) (Ok next) (weighed_here (Ok next) is)

    pub raise-fault : (fault : DeriveFault) → place_raised count value more current (get_or xs i d) ≡ Err fault → places_raised part count value number draft xs ≡ Err fault
    raise-fault fault is =
        ap (places_raised part count value number draft) (sym (take-append-drop i xs)) ∙ raise_append number draft (take i xs) (drop i xs)
        ∙ ap (λ (r : Result Draft DeriveFault). and_then r (λ n. places_raised part count value (number +ℤ pos (length (take i xs))) n (drop i xs))) so_far
        ∙ ap (λ (n : ℤ). places_raised part count value n current (drop i xs)) there
        ∙ ap (places_raised part count value at current) (drop_more xs i d inside) ∙ raise_first at current (get_or xs i d) (drop (i + 1) xs) fault (weighed_here (Err fault) is)

    pub raise-fault_or : (fault : DeriveFault) → (fault ≡ Memory) ⊎ (place_raised count value more current (get_or xs i d) ≡ Err fault) → (fault ≡ Memory) ⊎ (places_raised part count value number draft xs ≡ Err fault)
    raise-fault_or fault (inl memory) = inl memory
    raise-fault_or fault (inr is) = inr (raise-fault fault is)
