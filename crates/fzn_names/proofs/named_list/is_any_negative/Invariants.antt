use Rattle.std.proofs.Common.{◌≡◌, length}
use Rattle.std.specs.List.{list_any}
use Rattle.fzn_names.specs.Signs.{is_negative}
use Rattle.fzn_names.proofs.named_list.is_any_negative.Given as goal

-- what is found from here on is what is found from the start
abbrev pub invariant-loop-terms : goal.invariant-loop-terms
invariant-loop-terms l = list_any is_negative l.terms ≡ list_any is_negative l.initial.terms

abbrev pub decreases-loop-terms : goal.decreases-loop-terms
decreases-loop-terms l = length l.terms
