-- What a decision has to be: a literal that splits a set.
use Rattle.std.specs.Prelude.{List, length}
use Rattle.fzn_domain.specs.declared.literal.Lit.{Lit}
use Rattle.fzn_domain.specs.IntSet.{IntSet}
use Rattle.fzn_domain.specs.Limits.{IsInLimits}
use Rattle.fzn_domain.specs.Narrow.{IsVariable, IsOpen}

-- some values of the variable's set make the literal true, and others false
pub record Splits (sets : List IntSet) (lit : Lit) : Type 0 where
  pub variable : IsVariable (length sets) lit.var
  pub is_open : IsOpen sets lit
  pub in_limits : IsInLimits lit.value
