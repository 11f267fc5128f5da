use Rattle.std.proofs.Common.{◌≡◌, length}
use Rattle.fzn_lexer.specs.Kept.{tokens_of}
use Rattle.fzn_mending.specs.Mending.{constant, constant_from}
use Rattle.fzn_mending.proofs.mending.constant_of.Given as goal

-- what is found from here on is what is found from the start
abbrev pub invariant-loop-tokens : goal.invariant-loop-tokens
invariant-loop-tokens l = constant_from l.params l.seen (tokens_of l.bytes l.tokens) ≡ constant l.params (tokens_of l.bytes l.initial.tokens)

abbrev pub decreases-loop-tokens : goal.decreases-loop-tokens
decreases-loop-tokens l = length l.tokens
