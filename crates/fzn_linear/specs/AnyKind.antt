-- The ghost members of the propagator of any kind: those of its kind.
use Rattle.std.specs.Prelude.{ℕ, List, length}
use Rattle.fzn_domain.specs.IntSet.{IntSet}
use Rattle.fzn_meaning.specs.declared.constraint.Constraint.{Constraint}
use Rattle.fzn_propagator.specs.declared.counting.Counting.{Counting}
use Rattle.fzn_linear.specs.declared.kinds.ArithPropagator.{ArithPropagator}
use Rattle.fzn_linear.specs.declared.kinds.ArithPropagator.TheVariants.{Sum, Equality}
use Rattle.fzn_linear.specs.declared.sum.SumPropagator.{SumPropagator}
use Rattle.fzn_linear.specs.Counted.{CountsForm}
use Rattle.fzn_linear.specs.Kinds.{IsFormOf, IsSumReady}
use Rattle.fzn_linear.specs.Equality.{equality_number, EqualityIsFor, EqualityFits}

abbrev pub sum_in : ArithPropagator → SumPropagator
sum_in (Sum p) = p
sum_in (Equality p) = p.sum

abbrev pub kind_number : ArithPropagator → ℕ
kind_number (Sum p) = p.number
kind_number (Equality p) = equality_number p

abbrev pub KindIsFor : ArithPropagator → Constraint → Type 0
KindIsFor (Sum p) constraint = IsFormOf constraint p.form
KindIsFor (Equality p) constraint = EqualityIsFor p constraint

abbrev pub KindFits : ArithPropagator → List IntSet → Type 0
KindFits (Sum p) declared = IsSumReady (length declared) p.form p.opposite
KindFits (Equality p) declared = EqualityFits p declared

-- two terms that are compared are not counted
abbrev pub KindCounts : ArithPropagator → Counting → Type 0
KindCounts (Sum p) counting = CountsForm p.form counting
KindCounts (Equality p) counting = ⊥
