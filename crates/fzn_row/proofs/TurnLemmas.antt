-- One change after another.
use Rattle.std.proofs.Common.{◌≡◌, ℕ, ◌+◌, ◌<◌, List, [], ◌∷◌, ◌++◌, length, get_or, take, drop, refl, sym, ap, ◌∙◌, inl, inr, ◌⊎◌, Result, Ok, Err}
use Rattle.std.proofs.lemmas.List.{take_more, drop_more, take-append-drop}
use Rattle.fzn_cited.specs.declared.fault.DeriveFault.{DeriveFault}
use Rattle.fzn_cited.specs.declared.fault.DeriveFault.TheVariants.{Memory}
use Rattle.fzn_row.specs.Draft.{Draft, and_then, in_turn}

module _ {A : Type 0} (change : Draft → A → Result Draft DeriveFault) where
  pub turn-append : (draft : Draft) (xs ys : List A) → in_turn change draft (xs ++ ys) ≡ and_then (in_turn change draft xs) (λ next. in_turn change next ys)
  turn-append draft [] ys = refl
  turn-append draft (x ∷ xs) ys = step (change draft x) (λ next. turn-append next xs ys)
    where
      step : (first : Result Draft DeriveFault) → ((next : Draft) → in_turn change next (xs ++ ys) ≡ and_then (in_turn change next xs) (λ n. in_turn change n ys))
          → and_then first (λ next. in_turn change next (xs ++ ys)) ≡ and_then (and_then first (λ next. in_turn change next xs)) (λ n. in_turn change n ys)
      step (Ok next) rest = rest next
      step (Err fault) rest = refl

  turn-one : (draft : Draft) (x : A) (first : Result Draft DeriveFault) → change draft x ≡ first → in_turn change draft (x ∷ []) ≡ first
  turn-one draft x (Ok next) is = ap (λ (r : Result Draft DeriveFault). and_then r (λ next. in_turn change next [])) is
  turn-one draft x (Err fault) is = ap (λ (r : Result Draft DeriveFault). and_then r (λ next. in_turn change next [])) is

  turn-first : (draft : Draft) (x : A) (xs : List A) (fault : DeriveFault) → change draft x ≡ Err fault → in_turn change draft (x ∷ xs) ≡ Err fault
  turn-first draft x xs fault is = ap (λ (r : Result Draft DeriveFault). and_then r (λ next. in_turn change next xs)) is

  module _ (draft current : Draft) (xs : List A) (i : ℕ) (d : A) (inside : i < length xs) (so_far : in_turn change draft (take i xs) ≡ Ok current) where
    pub turn-more : (next : Draft) → change current (get_or xs i d) ≡ Ok next → in_turn change draft (take (i + 1) xs) ≡ Ok next
    turn-more next is =
        ap (in_turn change draft) (take_more xs i d inside) ∙ turn-append draft (take i xs) (get_or xs i d ∷ [])
        ∙ ap (λ (r : Result Draft DeriveFault). and_then r (λ n. in_turn change n (get_or xs i d ∷ []))) so_far ∙ turn-one current (get_or xs i d) (Ok next) is

    pub turn-fault : (fault : DeriveFault) → change current (get_or xs i d) ≡ Err fault → in_turn change draft xs ≡ Err fault
    turn-fault fault is =
        ap (in_turn change draft) (sym (take-append-drop i xs)) ∙ turn-append draft (take i xs) (drop i xs)
        ∙ ap (λ (r : Result Draft DeriveFault). and_then r (λ n. in_turn change n (drop i xs))) so_far
        ∙ ap (in_turn change current) (drop_more xs i d inside) ∙ turn-first current (get_or xs i d) (drop (i + 1) xs) fault is

    pub turn-fault_or : (fault : DeriveFault) → (fault ≡ Memory) ⊎ (change current (get_or xs i d) ≡ Err fault) → (fault ≡ Memory) ⊎ (in_turn change draft xs ≡ Err fault)
    turn-fault_or fault (inl memory) = inl memory
    turn-fault_or fault (inr is) = inr (turn-fault fault is)
