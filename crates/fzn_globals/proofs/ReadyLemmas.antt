-- The propagator of a global constraint holds the constraint itself, which is well formed.
use Rattle.std.proofs.Common.{◌≡◌, ℕ, List, sym, subst, ◌∙◌}
use Rattle.fzn_meaning.specs.declared.constraint.Constraint.{Constraint}
use Rattle.fzn_meaning.specs.declared.constraint.Constraint.TheVariants.{AllDifferent, Inverse}
use Rattle.fzn_values.specs.declared.term.Term.{Term}
use Rattle.fzn_meaning.specs.Meaning.{IsWellFormedConstraint}
use Rattle.fzn_globals.specs.Kinds.{IsKind, IsGlobalReady}

-- the propagator of a constraint of the two global ones that it holds
module _ (count : ℕ) (given own : Constraint) (is_formed : IsWellFormedConstraint count given) where
  pub all_different-ready : (places : List Term) → given ≡ AllDifferent places → own ≡ AllDifferent places → IsGlobalReady count own
  unfolding IsKind
  all_different-ready places is made = record { formed = subst (IsWellFormedConstraint count) (is ∙ sym made) is_formed; kind = subst IsKind (sym made) tt }

  pub inverse-ready : (forward backward : List Term) → given ≡ Inverse forward backward → own ≡ Inverse forward backward → IsGlobalReady count own
  unfolding IsKind
  inverse-ready forward backward is made = record { formed = subst (IsWellFormedConstraint count) (is ∙ sym made) is_formed; kind = subst IsKind (sym made) tt }
