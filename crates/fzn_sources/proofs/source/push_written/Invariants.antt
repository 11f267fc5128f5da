use Rattle.std.proofs.Common.{◌≡◌, ◌++◌, length, map}
use Rattle.fzn_names.specs.Values.{NameList}
use Rattle.fzn_typing.specs.Models.{written}
use Rattle.fzn_sources.specs.Items.{item_in, stated_by}
use Rattle.fzn_sources.proofs.source.push_written.Given as goal

-- those so far, and those to come
abbrev pub invariant-loop-vars : goal.invariant-loop-vars
invariant-loop-vars l = (names : NameList) → l.sources.items ++ map item_in (stated_by (written names) l.vars l.items)
    ≡ l.initial.sources.items ++ map item_in (stated_by (written names) l.initial.vars l.initial.items)

abbrev pub decreases-loop-vars : goal.decreases-loop-vars
decreases-loop-vars l = length l.vars
