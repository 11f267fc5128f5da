use Rattle.std.proofs.Common.{◌≡◌, ◌++◌, length}
use Rattle.fzn_lexer.specs.Kept.{tokens_of}
use Rattle.fzn_mending.specs.Mending.{mended, mended_from}
use Rattle.fzn_mending.proofs.mending.mended_of.Given as goal

-- the tokens so far, and those to come
abbrev pub invariant-loop-tokens : goal.invariant-loop-tokens
invariant-loop-tokens l = tokens_of l.bytes l.found ++ mended_from l.params l.seen (tokens_of l.bytes l.tokens) ≡ mended l.params (tokens_of l.bytes l.initial.tokens)

abbrev pub decreases-loop-tokens : goal.decreases-loop-tokens
decreases-loop-tokens l = length l.tokens
