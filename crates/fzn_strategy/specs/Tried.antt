-- Which values of a variable a search tries first.
use Rattle.std.specs.Prelude.{◌≡◌, ℤ, ◌≤ℤ◌, ◌<ℤ◌, ◌+ℤ◌}
use Rattle.fzn_domain.specs.IntSet.{IntSet, least, greatest}
use Rattle.fzn_strategy.specs.declared.annotation.ValueChoice.{ValueChoice}
use Rattle.fzn_strategy.specs.declared.annotation.ValueChoice.TheVariants.{Min, Max, Split, ReverseSplit}

-- the choice tries the value before those of which this is not so
abbrev pub IsTriedFirst : ValueChoice → IntSet → ℤ → Type 0
IsTriedFirst Min set value = value ≡ least set
IsTriedFirst Max set value = value ≡ greatest set
IsTriedFirst Split set value = (value +ℤ value) ≤ℤ (least set +ℤ greatest set)
IsTriedFirst ReverseSplit set value = (least set +ℤ greatest set) <ℤ (value +ℤ value)
