-- The ghost members of the propagator of two terms that are compared.
use Rattle.std.specs.Prelude.{◌≡◌, ℕ, List, length}
use Rattle.fzn_domain.specs.IntSet.{IntSet}
use Rattle.fzn_meaning.specs.declared.constraint.Constraint.{Constraint}
use Rattle.fzn_meaning.specs.declared.constraint.Constraint.TheVariants.{Compare}
use Rattle.fzn_meaning.specs.Meaning.{IsSwitch}
use Rattle.fzn_values.specs.Term.{IsTerm}
use Rattle.fzn_linear.specs.declared.equality.EqualityPropagator.{EqualityPropagator}
use Rattle.fzn_linear.specs.Kinds.{IsFormOf, IsSumReady}

abbrev pub equality_number : EqualityPropagator → ℕ
equality_number propagator = propagator.sum.number

-- the constraint that compares the terms so
pub record EqualityIsFor (propagator : EqualityPropagator) (constraint : Constraint) : Type 0 where
  pub compares : constraint ≡ Compare propagator.relation propagator.left propagator.right propagator.switch
  pub by_form : IsFormOf constraint propagator.sum.form

-- terms of the declared sets
pub record EqualityFits (propagator : EqualityPropagator) (declared : List IntSet) : Type 0 where
  pub left_fits : IsTerm (length declared) propagator.left
  pub right_fits : IsTerm (length declared) propagator.right
  pub switch_fits : IsSwitch (length declared) propagator.switch
  pub sum_fits : IsSumReady (length declared) propagator.sum.form propagator.sum.opposite
