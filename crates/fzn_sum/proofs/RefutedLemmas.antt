-- What a clause rules out, a longer one does too; a conflict is a refutation, and so is a refutation of the opposite inequality.
use Rattle.std.proofs.Common.{◌≡◌, List, ◌++◌, get_or, subst, inl, inr, ℤ, pos, ◌-ℤ◌}
use Rattle.fzn_domain.specs.declared.literal.Lit.{Lit}
use Rattle.fzn_values.specs.declared.term.Place.{Place}
use Rattle.fzn_meaning.specs.declared.relation.Comparison.{Comparison}
use Rattle.fzn_meaning.specs.declared.relation.Comparison.TheVariants.{AtMost, Equal, NotEqual}
use Rattle.fzn_trail.specs.Levels.{Levels}
use Rattle.fzn_propagator.proofs.CallerLemmas.{left_of_more, forcing_of_false}
use Rattle.fzn_sum.specs.declared.inequality.Inequality.{Inequality}
use Rattle.fzn_sum.specs.Explained.{Exceeds}
use Rattle.fzn_sum.specs.Opposite.{opposites}
use Rattle.fzn_sum.specs.Refuted.{RulesOut, IsSumConflict, IsRefutation}

exceeds-more : (trail : Levels) (clause more : List Lit) (places : List Place) (bound : ℤ) → Exceeds trail clause places bound → Exceeds trail (clause ++ more) places bound
exceeds-more trail clause more places bound exceeds = λ choice left.
    exceeds choice (λ k d below. let place = get_or places k d in left_of_more trail.declared clause more place.term (choice place) (left k d below))

pub rules_out-more : (trail : Levels) (clause more : List Lit) (comparison : Comparison) (places : List Place) (bound : ℤ) → RulesOut trail clause comparison places bound → RulesOut trail (clause ++ more) comparison places bound
rules_out-more trail clause more AtMost places bound out = exceeds-more trail clause more places bound out
rules_out-more trail clause more Equal places bound out = elim out [
  | inl above ↦ inl (exceeds-more trail clause more places bound above)
  | inr below ↦ inr (exceeds-more trail clause more (opposites places) (pos 0 -ℤ bound) below)
]
rules_out-more trail clause more NotEqual places bound out = (
  exceeds-more trail clause more places (bound -ℤ pos 1) out.0,
  exceeds-more trail clause more (opposites places) ((pos 0 -ℤ bound) -ℤ pos 1) out.1,
)

pub refutation_of : (trail : Levels) (comparison : Comparison) (places : List Place) (bound : ℤ) (clause : List Lit) → IsSumConflict trail comparison places bound clause → IsRefutation trail comparison places bound clause
refutation_of trail comparison places bound clause conflict = record { forcing = forcing_of_false trail clause conflict.still; rules_out = conflict.rules_out }

-- a refutation of the opposite inequality refutes that the sum is the number
pub refutes_below : (trail : Levels) (places : List Place) (number : ℤ) (part : Inequality) (clause : List Lit) → part.trail.now ≡ trail → part.places.now ≡ opposites places → part.bound ≡ pos 0 -ℤ number → IsRefutation part.trail.now AtMost part.places.now part.bound clause → IsRefutation trail Equal places number clause
refutes_below trail places number part clause trail_is places_are bound_is refutes =
    let a = subst (λ (t : Levels). IsRefutation t AtMost part.places.now part.bound clause) trail_is refutes in
    let b = subst (λ (ps : List Place). IsRefutation trail AtMost ps part.bound clause) places_are a in
    let there = subst (λ (z : ℤ). IsRefutation trail AtMost (opposites places) z clause) bound_is b in
    record { forcing = there.forcing; rules_out = inr there.rules_out }
