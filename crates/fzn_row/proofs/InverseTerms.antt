-- The terms of an inverse are well formed.
use Rattle.std.proofs.Common.{◌≡◌, ℕ, List, subst}
use Rattle.fzn_values.specs.declared.term.Term.{Term}
use Rattle.fzn_meaning.specs.declared.constraint.Constraint.{Constraint}
use Rattle.fzn_meaning.specs.declared.constraint.Constraint.TheVariants as constraint
use Rattle.fzn_meaning.specs.Meaning.{IsWellFormedConstraint, AreTerms}

pub inverse-terms : (count : ℕ) (c : Constraint) (forward backward : List Term) → IsWellFormedConstraint count c → c ≡ constraint.Inverse forward backward → AreTerms count forward × AreTerms count backward
unfolding IsWellFormedConstraint
inverse-terms count c forward backward well is = let w = subst (IsWellFormedConstraint count) is well in (w.0, w.1)
