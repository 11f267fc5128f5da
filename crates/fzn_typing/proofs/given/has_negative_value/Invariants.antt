use Rattle.std.proofs.Common.{◌≡◌, length}
use Rattle.std.specs.List.{list_any}
use Rattle.fzn_names.specs.Known.{known}
use Rattle.fzn_names.specs.Signs.{is_negative}
use Rattle.fzn_names.specs.Values.{entry_terms}
use Rattle.fzn_typing.proofs.given.has_negative_value.Given as goal

-- what is found from here on is what is found from the start
abbrev pub invariant-loop-entries : goal.invariant-loop-entries
invariant-loop-entries l = list_any is_negative (entry_terms (known l.names) l.entries) ≡ list_any is_negative (entry_terms (known l.names) l.initial.entries)

abbrev pub decreases-loop-entries : goal.decreases-loop-entries
decreases-loop-entries l = length l.entries
