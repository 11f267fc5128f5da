-- Intervals of the values of terms.
use Rattle.std.specs.Prelude.{ℤ, ◌≤ℤ◌, List}
use Rattle.fzn_domain.specs.Limits.{IsInLimits}
use Rattle.fzn_domain.specs.IntSet.{IntSet}
use Rattle.fzn_values.specs.declared.term.Term.{Term}
use Rattle.fzn_sets.specs.Terms.{MayBe, least_value, greatest_value}
use Rattle.fzn_terms.specs.declared.interval.Interval.{Interval}

-- the number is in the interval
abbrev pub IsIn : Interval → ℤ → Type 0
IsIn interval v = (interval.low ≤ℤ v) × (v ≤ℤ interval.high)

abbrev pub IsLimitedInterval : Interval → Type 0
IsLimitedInterval interval = IsInLimits interval.low × IsInLimits interval.high

-- each value of the term is in the interval
abbrev pub LiesIn : List IntSet → Term → Interval → Type 0
LiesIn sets term interval = (v : ℤ) → MayBe sets term v → IsIn interval v

-- from the least to the greatest value of the term
abbrev pub ends_of : List IntSet → Term → Interval
ends_of sets term = record { low = least_value sets term; high = greatest_value sets term }
