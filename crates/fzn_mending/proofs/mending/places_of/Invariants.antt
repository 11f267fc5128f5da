use Rattle.std.proofs.Common.{◌≡◌, ◌++◌, length}
use Rattle.fzn_lexer.specs.Kept.{tokens_of}
use Rattle.fzn_mending.specs.Mending.{mended_places, places_from}
use Rattle.fzn_mending.proofs.mending.places_of.Given as goal

-- the places so far, and those to come
abbrev pub invariant-loop-tokens : goal.invariant-loop-tokens
invariant-loop-tokens l = l.found ++ places_from l.params l.seen (tokens_of l.bytes l.tokens) ≡ mended_places l.params (tokens_of l.bytes l.initial.tokens)

abbrev pub decreases-loop-tokens : goal.decreases-loop-tokens
decreases-loop-tokens l = length l.tokens
