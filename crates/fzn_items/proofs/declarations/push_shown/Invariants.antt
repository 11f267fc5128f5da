use Rattle.std.proofs.Common.{◌≡◌, ◌++◌, length}
use Rattle.fzn_items.specs.Declarations.{shown_text}
use Rattle.fzn_items.proofs.declarations.push_shown.Given as goal

-- the marks so far, and those to come
abbrev pub invariant-loop-anns : goal.invariant-loop-anns
invariant-loop-anns l = l.text.items ++ shown_text l.count l.anns ≡ l.initial.text.items ++ shown_text l.count l.initial.anns

abbrev pub decreases-loop-anns : goal.decreases-loop-anns
decreases-loop-anns l = length l.anns
