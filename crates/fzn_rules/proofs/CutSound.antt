-- The rule `cut`: on sets where it is met, no choice of one value from each set meets the constraint.
use Rattle.std.proofs.Common.{◌≡◌, ◌≤◌, List, length, get_or, sym, subst, arith, ℤ, pos}
use Rattle.std.specs.List.{All, Contains}
use Rattle.std.proofs.lemmas.List.Elements.{All-contains, Contains-get_or}
use Rattle.fzn_domain.specs.IntSet.{IntSet}
use Rattle.fzn_domain.specs.Narrow.{IsWithin}
use Rattle.fzn_values.specs.declared.term.Term.{Term}
use Rattle.fzn_meaning.specs.declared.constraint.Constraint.{Constraint}
use Rattle.fzn_meaning.specs.declared.constraint.Constraint.TheVariants.{Circuit}
use Rattle.fzn_values.specs.Circuit.{IsCircuit}
use Rattle.fzn_values.specs.Entries.{IsIndex, entry_at}
use Rattle.fzn_values.specs.Term.{values_of, IsTerm}
use Rattle.fzn_meaning.specs.Meaning.{Meets, IsWellFormedConstraint}
use Rattle.fzn_values.proofs.CallerLemmas.{circuit-no_cut}
use Rattle.fzn_sets.specs.Terms.{term_at}
use Rattle.fzn_rules.specs.Cut.{LeadsInto, IsClosed, IsCutMet}
use Rattle.fzn_rules.proofs.PlacesLemmas.{index-length}
use Rattle.fzn_sets.proofs.CallerLemmas.{length-values_of, MayBe-entry_at}

-- a step from one of the places leads to one of them
stays : (sets : List IntSet) (values : List ℤ) (successors : List Term) (places : List ℤ) → All (IsTerm (length sets)) successors → IsClosed sets successors places → IsWithin sets values → (p : ℤ) → Contains places p → Contains places (entry_at (values_of values successors) p)
stays sets values successors places terms met within p there =
    let index = All-contains (IsIndex (length successors)) places p met.indices there in
    let leads = All-contains (λ place. LeadsInto sets places (term_at successors place)) places p met.closed there in
    leads (entry_at (values_of values successors) p) (MayBe-entry_at sets values successors p within terms index)

-- so every place of a circuit would be among them
closed_sound : (sets : List IntSet) (values : List ℤ) (successors : List Term) (places : List ℤ) → All (IsTerm (length sets)) successors → IsClosed sets successors places → IsWithin sets values → IsCircuit (values_of values successors) → ⊥
closed_sound sets values successors places terms met within circuit =
    let count : length (values_of values successors) ≡ length successors = length-values_of values successors in
    let there : Contains places (get_or places 0 (pos 0)) = Contains-get_or places 0 (pos 0) met.some in
    let index = All-contains (IsIndex (length successors)) places (get_or places 0 (pos 0)) met.indices there in
    let same : (x : ℤ) → IsIndex (length successors) x → IsIndex (length (values_of values successors)) x = λ x at. subst (λ n. IsIndex n x) (sym count) at in
    let all : length successors ≤ length places =
    index-length (length successors) places
    (λ x at. circuit-no_cut (Contains places) (values_of values successors) circuit (stays sets values successors places terms met within) (get_or places 0 (pos 0)) (same (get_or places 0 (pos 0)) index) there x (same x at)) in
    omega (arith, met.not_all)

pub cut_sound : (constraint : Constraint) (sets : List IntSet) (places values : List ℤ) → IsWellFormedConstraint (length sets) constraint → IsCutMet constraint sets places → IsWithin sets values → Meets constraint values → ⊥
unfolding IsCutMet IsWellFormedConstraint Meets
cut_sound (Circuit successors) sets places values formed met within meets = closed_sound sets values successors places formed.0 met within meets
cut_sound _ sets places values formed met within meets = met
