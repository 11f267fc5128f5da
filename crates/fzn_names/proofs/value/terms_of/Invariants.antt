use Rattle.std.proofs.Common.{◌≡◌, ◌++◌, length}
use Rattle.fzn_names.specs.Known.{known}
use Rattle.fzn_names.specs.Values.{entry_terms}
use Rattle.fzn_names.proofs.value.terms_of.Given as goal

-- those so far, and those to come
abbrev pub invariant-loop-entries : goal.invariant-loop-entries
invariant-loop-entries l = l.terms ++ entry_terms (known l.names) l.entries ≡ entry_terms (known l.names) l.initial.entries

abbrev pub decreases-loop-entries : goal.decreases-loop-entries
decreases-loop-entries l = length l.entries
