use Rattle.std.proofs.Common.{◌≡◌, pos, refl}
use Rattle.fzn_domain.specs.IntSet.{no_values, range, numbers_from}
use Rattle.fzn_names.proofs.domain.no_values.Goals as goal

-- no number is from 1 to 0
none : range (pos 1) (pos 0) ≡ no_values
unfolding range numbers_from
none = refl

pub returns : goal.returns
returns c = rw (← none) c.range.ensures
