-- What callers may cite: the values of terms, and what the relations say of places.
use Rattle.std.proofs.Common.{◌≡◌, ℕ, ◌<◌, List, length, get_or, ap, sym, ◌∙◌, subst, ℤ, arith}
use Rattle.std.specs.List.{All, Any}
use Rattle.std.proofs.lemmas.List.{length-map, get_or-map, get_or_default}
use Rattle.std.proofs.lemmas.List.Elements.{All-map}
use Rattle.fzn_values.specs.declared.term.Term.{Term}
use Rattle.fzn_values.specs.declared.term.Term.TheVariants.{Constant}
use Rattle.fzn_values.specs.Term.{term_value, values_of}
pub use Rattle.fzn_values.proofs.CountLemmas.{one_if, places_of, is_inside, places_inside, places_inside-none, places_inside-first, places_inside-length, places_inside-most, places_inside-fewer, places_inside-least, places_inside-more, places_of-Contains, Contains-places_of, places_of-two, places_of-different, different-places_of}
pub use Rattle.fzn_values.proofs.CircuitLemmas.{Contains-entry_at, reached-more, reached-stays, IsIndex-reached, circuit-Contains, circuit-different, circuit-no_cut}

-- ---- the values of terms, term by term

module _ (values : List ℤ) (terms : List Term) where
  pub length-values_of : length (values_of values terms) ≡ length terms
  length-values_of = length-map terms (term_value values)

  pub get_or-values_of : (k : ℕ) (d : ℤ) (e : Term) → k < length terms → get_or (values_of values terms) k d ≡ term_value values (get_or terms k e)
  get_or-values_of k d e h = get_or-map (term_value values) terms k e d h

  inside_values : (k : ℕ) → k < length terms → k < length (values_of values terms)
  inside_values k h = omega (arith, length-values_of)

  module _ (P : ℤ → Type 0) where
    pub All-values_of : All (λ term. P (term_value values term)) terms → All P (values_of values terms)
    All-values_of = All-map P (term_value values) terms

    pub All-from_values : All P (values_of values terms) → All (λ term. P (term_value values term)) terms
    All-from_values h k e inside =
        subst P (get_or-values_of k (term_value values e) e inside) (h k (term_value values e) (inside_values k inside))

    pub Any-values_of : Any (λ term. P (term_value values term)) terms → Any P (values_of values terms)
    Any-values_of (k, term, inside, same, p) =
        (k, term_value values term, inside_values k inside, get_or-values_of k (term_value values term) term inside ∙ ap (term_value values) same, p)

    pub Any-from_values : Any P (values_of values terms) → Any (λ term. P (term_value values term)) terms
    Any-from_values (k, x, inside, same, p) =
        let lt : k < length terms = omega (arith, length-values_of) in
        (k, get_or terms k (Constant x), lt, get_or_default terms k (get_or terms k (Constant x)) (Constant x) lt, subst P (sym same ∙ get_or-values_of k x (Constant x) lt) p)
