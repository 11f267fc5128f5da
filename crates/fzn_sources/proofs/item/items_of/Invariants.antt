use Rattle.std.proofs.Common.{◌≡◌, ◌++◌, length}
use Rattle.fzn_lexer.specs.Kept.{tokens_of}
use Rattle.fzn_sources.specs.Items.{items_from, item_spans}
use Rattle.fzn_sources.proofs.item.items_of.Given as goal

-- the items so far, and those to come
abbrev pub invariant-loop-kept : goal.invariant-loop-kept
invariant-loop-kept l = l.items.items ++ items_from l.begun (tokens_of l.file l.kept) ≡ item_spans l.tokens

abbrev pub decreases-loop-kept : goal.decreases-loop-kept
decreases-loop-kept l = length l.kept
