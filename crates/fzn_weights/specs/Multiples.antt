-- Which forms may be multiplied.
use Rattle.std.specs.Prelude.{ℤ, pos, int_le, Bool, false, not, ◌&&◌, nat_le, unsigned_abs, is_none}
use Rattle.std.specs.Ordering.{int_eq}
use Rattle.fzn_meaning.specs.declared.relation.Comparison.{Comparison}
use Rattle.fzn_meaning.specs.declared.relation.Comparison.TheVariants.{AtMost, Equal, NotEqual}
use Rattle.fzn_builtin_rules.specs.Form.{Form}

-- a sum that is at most its bound is multiplied by a number above 0, one that is its bound by any but 0
abbrev pub may_multiply : Comparison → ℤ → Bool
may_multiply AtMost multiplier = int_le (pos 1) multiplier
may_multiply Equal multiplier = not (int_eq multiplier (pos 0))
may_multiply NotEqual multiplier = false

-- a form without a switch may be multiplied so, by at most 10^12
abbrev pub is_usable : ℤ → Form → Bool
is_usable multiplier found = is_none found.switch && may_multiply found.comparison multiplier && nat_le (unsigned_abs multiplier) 1000000000000
