use Rattle.std.proofs.Common.{◌≡◌, ℕ, subst}
use Rattle.fzn_meaning.specs.declared.row.Row.{Row}
use Rattle.fzn_meaning.specs.declared.constraint.Constraint.{Constraint}
use Rattle.fzn_meaning.specs.declared.constraint.Constraint.TheVariants as constraint
use Rattle.fzn_meaning.specs.Meaning.{IsWellFormedConstraint}
use Rattle.fzn_meaning.specs.Separable.{IsSeparableRow}
use Rattle.fzn_separable.proofs.constraint.propagator_for.Goals as goal

separable : (count : ℕ) (C : Constraint) (row : Row) → C ≡ constraint.Row row → IsWellFormedConstraint count C → IsSeparableRow count row
unfolding IsWellFormedConstraint
separable count C row is formed = subst (IsWellFormedConstraint count) is formed

pub new-requires : goal.new-requires
new-requires c = record { row = (c.requires.formed.0, separable c.requires.formed.0 c.args.given.now c.in-Row.row c.in-Row.is c.requires.formed.1) }
