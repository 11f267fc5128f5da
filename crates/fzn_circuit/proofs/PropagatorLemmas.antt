-- Where no clause is left and all variables are fixed, the successors are a circuit.
use Rattle.std.proofs.Common.{◌≡◌, ℕ, ◌+◌, ◌<◌, false, List, length, get_or, refl, sym, subst, ◌∙◌, arith, ℤ, pos, All, int_le}
use Rattle.std.proofs.lemmas.Int.{ints}
use Rattle.std.proofs.lemmas.List.Elements.{All-get_or, All-from_get_or}
use Rattle.fzn_domain.specs.IntSet.{IntSet}
use Rattle.fzn_domain.specs.Narrow.{IsWithin}
use Rattle.fzn_values.specs.declared.term.Term.{Term}
use Rattle.fzn_values.specs.declared.term.Term.TheVariants.{Constant}
use Rattle.fzn_meaning.specs.declared.constraint.Constraint.{Constraint}
use Rattle.fzn_meaning.specs.declared.constraint.Constraint.TheVariants.{Circuit}
use Rattle.fzn_values.specs.Entries.{IsIndex}
use Rattle.fzn_values.specs.Term.{IsTerm, term_value, values_of}
use Rattle.fzn_meaning.specs.Meaning.{Meets, AreTerms}
use Rattle.fzn_values.proofs.CallerLemmas.{length-values_of, get_or-values_of}
use Rattle.fzn_sets.proofs.CallerLemmas.{MayBe-term_value}
use Rattle.fzn_sets.specs.Terms.{IsFixedTo}
use Rattle.fzn_builtin_rules.specs.Form.{form_of}
use Rattle.fzn_trail.specs.Levels.{Levels}
use Rattle.fzn_propagator.specs.Inference.{AllFixed, IsInferredOut}
use Rattle.fzn_terms.proofs.FixedLemmas.{fixed_to}
use Rattle.fzn_circuit.specs.Circuits.{AreFixedPlaces, AreInside, AreDifferent, HasNoShortWay}
use Rattle.fzn_circuit.proofs.ClosingLemmas.{circuit_of}
use Rattle.fzn_propagator.proofs.CallerLemmas.{exhausted as no_sum}

index_of : (x : ℤ) (n : ℕ) → int_le x (pos 0) ≡ false → int_le (pos (n + 1)) x ≡ false → IsIndex n x
index_of x n h k = (grind (arith, ints), grind (arith, ints))

module _ (sets : List IntSet) (successors : List Term) (fit : All (IsTerm (length sets)) successors) (inside : AreInside sets successors) (different : AreDifferent sets successors) (values : List ℤ) (within : IsWithin sets values) (fixed : AllFixed sets) where
  value_at : (k : ℕ) → k < length successors → get_or (values_of values successors) k (pos 0) ≡ term_value values (get_or successors k (Constant (pos 0)))
  value_at k below = get_or-values_of values successors k (pos 0) (Constant (pos 0)) below

  fits_at : (k : ℕ) (d : Term) → k < length successors → IsTerm (length sets) (get_or successors k d)
  fits_at k d below = All-get_or (IsTerm (length sets)) successors k d below fit

  places : All (IsIndex (length (values_of values successors))) (values_of values successors)
  places = All-from_get_or (IsIndex (length (values_of values successors))) (values_of values successors) (pos 0) (λ k below.
      let len = length-values_of values successors in
      let lt : k < length successors = omega arith in
      let may = MayBe-term_value sets values (get_or successors k (Constant (pos 0))) within (fits_at k (Constant (pos 0)) lt) in
      let out = inside k (Constant (pos 0)) lt in
      let x = term_value values (get_or successors k (Constant (pos 0))) in
      subst (λ (n : ℕ). IsIndex n (get_or (values_of values successors) k (pos 0))) (sym len)
      (subst (IsIndex (length successors)) (sym (value_at k lt)) (index_of x (length successors) (out.0 x may) (out.1 x may))))

  fixed_places : AreFixedPlaces sets successors (values_of values successors)
  fixed_places = record {
    one_each = length-values_of values successors;
    places = places;
    fixed = λ k d below.
        subst (λ (x : ℤ). IsFixedTo sets (get_or successors k d) x) (sym (get_or-values_of values successors k (pos 0) d below))
        (fixed_to sets values within fixed (get_or successors k d) (fits_at k d below));
  }

  pub meets_circuit : (0 < length successors → HasNoShortWay sets successors (pos 1)) → Meets (Circuit successors) values
  unfolding Meets
  meets_circuit none = circuit_of (values_of values successors) places (different fit values within fixed) (λ some. none (subst (λ (n : ℕ). 0 < n) (length-values_of values successors) some) (values_of values successors) fixed_places)

pub exhausted : (trail : Levels) (successors : List Term) → AreTerms (length trail.declared) successors → AreInside trail.sets successors → AreDifferent trail.sets successors → (0 < length successors → HasNoShortWay trail.sets successors (pos 1)) → (constraint : Constraint) → Circuit successors ≡ constraint → IsInferredOut constraint trail
unfolding form_of
exhausted trail successors fit inside different none constraint same = no_sum trail (Circuit successors) constraint refl same (λ fixed values declared present.
    let count : length trail.declared ≡ length trail.sets = sym declared.one_each ∙ present.one_each in
    meets_circuit trail.sets successors (subst (λ (n : ℕ). All (IsTerm n) successors) count fit.0) inside different values present fixed none)
