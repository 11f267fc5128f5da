-- The rule `pair`: on sets where it is met, no choice of one value from each set meets the constraint.
use Rattle.std.proofs.Common.{◌≡◌, List, length, sym, ◌∙◌, subst, inl, inr, ℤ}
use Rattle.std.specs.List.{All}
use Rattle.fzn_domain.specs.IntSet.{IntSet}
use Rattle.fzn_domain.specs.Narrow.{IsWithin}
use Rattle.fzn_values.specs.declared.term.Term.{Term}
use Rattle.fzn_meaning.specs.declared.constraint.Constraint.{Constraint}
use Rattle.fzn_meaning.specs.declared.constraint.Constraint.TheVariants.{Inverse}
use Rattle.fzn_values.specs.Entries.{IsIndex, entry_at}
use Rattle.fzn_values.specs.Inverse.{IsInverse}
use Rattle.fzn_values.specs.Term.{values_of, IsTerm}
use Rattle.fzn_meaning.specs.Meaning.{Meets, IsWellFormedConstraint}
use Rattle.fzn_sets.specs.Terms.{MayBe, term_at}
use Rattle.fzn_rules.specs.Pair.{IsBroken, IsPairMet}
use Rattle.fzn_rules.proofs.PlacesLemmas.{inverse-flip}
use Rattle.fzn_sets.proofs.CallerLemmas.{length-values_of, entry_at-values_of, MayBe-entry_at, fixed_value}

same_index : (values : List ℤ) (terms : List Term) (i : ℤ) → IsIndex (length terms) i → IsIndex (length (values_of values terms)) i
same_index values terms i at = subst (λ n. IsIndex n i) (sym (length-values_of values terms)) at

-- the other list leads back, though it cannot
broken_sound : (sets : List IntSet) (values : List ℤ) (i j : ℤ) (there back : List Term) → All (IsTerm (length sets)) back → IsIndex (length there) i → IsIndex (length back) j → IsBroken sets i j there back → IsWithin sets values → IsInverse (values_of values there) (values_of values back) → ⊥
broken_sound sets values i j there back terms at_i at_j broken within inverse =
    let goes : entry_at (values_of values there) i ≡ j = entry_at-values_of values there i ∙ fixed_value sets values (term_at there i) j within broken.0 in
    let returns : entry_at (values_of values back) j ≡ i = (inverse.inverse i j (same_index values there i at_i) (same_index values back j at_j)).0 goes in
    broken.1 (subst (MayBe sets (term_at back j)) returns (MayBe-entry_at sets values back j within terms at_j))

pub pair_sound : (constraint : Constraint) (sets : List IntSet) (i j : ℤ) (values : List ℤ) → IsWellFormedConstraint (length sets) constraint → IsPairMet constraint sets i j → IsWithin sets values → Meets constraint values → ⊥
unfolding IsPairMet IsWellFormedConstraint Meets
pair_sound (Inverse forward backward) sets i j values formed met within meets = elim met.broken [
  | inl broken ↦ broken_sound sets values i j forward backward formed.1.0 met.first met.second broken within meets
  | inr broken ↦ broken_sound sets values j i backward forward formed.0.0 met.second met.first broken within (inverse-flip (values_of values forward) (values_of values backward) meets)
]
pair_sound _ sets i j values formed met within meets = met
