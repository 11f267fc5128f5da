-- The value of a variable at each value of the one that decides it.
use Rattle.std.specs.Prelude.{ℤ, pos, ◌+ℤ◌, ◌-ℤ◌, ◌*ℤ◌, Option, Some}
use Rattle.fzn_values.specs.Term.{numbers_in}
use Rattle.fzn_dependence.specs.declared.dependence.Affine.{Affine}
use Rattle.fzn_dependence.specs.declared.dependence.Dependence.{Dependence}
use Rattle.fzn_dependence.specs.declared.dependence.Dependence.TheVariants.{Entry, Switch, Equation}
use Rattle.fzn_dependence.specs.Decided.{sum_compares, bit, quotient, entry_number}

-- the sum where its variable has this value, and all others are 0
abbrev pub affine_at : Affine → ℤ → ℤ
affine_at sum value = sum.rest +ℤ sum.coefficient *ℤ value

-- what the variable is where the one that decides it has this value
abbrev pub dependent_at : Dependence → ℤ → Option ℤ
dependent_at (Entry entries) value = entry_number (numbers_in entries.now) (value -ℤ pos 1)
dependent_at (Switch sum comparison bound) value = Some (bit (sum_compares comparison (affine_at sum value) bound))
dependent_at (Equation sum bound) value = quotient (bound -ℤ affine_at sum value) sum.besides
