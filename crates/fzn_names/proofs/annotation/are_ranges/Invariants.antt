use Rattle.std.proofs.Common.{◌≡◌, is_some, length}
use Rattle.std.specs.List.{list_all}
use Rattle.fzn_names.specs.Annotations.{index_range}
use Rattle.fzn_names.proofs.annotation.are_ranges.Given as goal

-- what is found from here on is what is found from the start
abbrev pub invariant-loop-terms : goal.invariant-loop-terms
invariant-loop-terms l = list_all (λ term. is_some (index_range term)) l.terms ≡ list_all (λ term. is_some (index_range term)) l.initial.terms

abbrev pub decreases-loop-terms : goal.decreases-loop-terms
decreases-loop-terms l = length l.terms
