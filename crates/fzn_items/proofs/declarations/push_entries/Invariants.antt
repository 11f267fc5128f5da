use Rattle.std.proofs.Common.{◌≡◌, ◌++◌, length}
use Rattle.std.specs.List.{flat_map}
use Rattle.fzn_names.specs.Known.{known}
use Rattle.fzn_names.specs.Values.{term_of}
use Rattle.fzn_items.specs.Pieces.{term_text}
use Rattle.fzn_items.proofs.declarations.push_entries.Given as goal

-- the entries so far, and those to come
abbrev pub invariant-loop-entries : goal.invariant-loop-entries
invariant-loop-entries l = l.text.items ++ flat_map (λ entry. term_text (term_of (known l.names) entry)) l.entries
    ≡ l.initial.text.items ++ flat_map (λ entry. term_text (term_of (known l.names) entry)) l.initial.entries

abbrev pub decreases-loop-entries : goal.decreases-loop-entries
decreases-loop-entries l = length l.entries
