-- Constants below 0.
use Rattle.std.specs.Prelude.{Bool, pos, int_lt}
use Rattle.fzn_values.specs.declared.term.Term.{Term}
use Rattle.fzn_values.specs.Term.{number_in}

abbrev pub is_negative : Term → Bool
is_negative term = int_lt (number_in term) (pos 0)
