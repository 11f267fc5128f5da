-- What it costs to ask a propagator of a sum.
use Rattle.std.specs.Prelude.{ℕ, nat_lt, length, if◌then◌else◌}
use Rattle.fzn_propagator.specs.declared.cost.Cost.{Cost}
use Rattle.fzn_propagator.specs.declared.cost.Cost.TheVariants.{Small, Great}
use Rattle.fzn_linear.specs.declared.kinds.ArithPropagator.{ArithPropagator}
use Rattle.fzn_linear.specs.declared.kinds.ArithPropagator.TheVariants.{Sum, Equality}

-- a sum of very many places is asked after all others
abbrev pub cost_of : ℕ → Cost
cost_of places = if nat_lt 64 places then Great else Small

abbrev pub kind_cost : ArithPropagator → Cost
kind_cost (Sum p) = cost_of (length p.form.places)
kind_cost (Equality p) = Small
