-- The form that holds exactly where another does not.
use Rattle.std.specs.Prelude.{ℤ, pos, ◌-ℤ◌}
use Rattle.fzn_meaning.specs.declared.relation.Comparison.{Comparison}
use Rattle.fzn_meaning.specs.declared.relation.Comparison.TheVariants.{AtMost, Equal, NotEqual}
use Rattle.fzn_builtin_rules.specs.Form.{Form, form}
use Rattle.fzn_sum.specs.Opposite.{opposites}

abbrev pub other_comparison : Comparison → Comparison
other_comparison AtMost = AtMost
other_comparison Equal = NotEqual
other_comparison NotEqual = Equal

-- more than the bound is at most one less than its negative, for the negative sum
abbrev pub other_bound : Comparison → ℤ → ℤ
other_bound AtMost bound = (pos 0 -ℤ bound) -ℤ pos 1
other_bound Equal bound = pos 0 -ℤ bound
other_bound NotEqual bound = pos 0 -ℤ bound

-- the negative sum compares so with this bound exactly where the sum does not compare so with its own
abbrev pub opposite_form : Form → Form
opposite_form found = form (opposites found.places) (other_comparison found.comparison) (other_bound found.comparison found.bound) found.switch
