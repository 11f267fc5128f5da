-- How long a list is.
use Rattle.std.specs.Prelude.{ℕ}
use Rattle.fzn_list.specs.declared.limits.TheConstants.{LONGEST}

-- the most variables, constraints and entries of one list
abbrev pub longest : ℕ
longest = LONGEST
