use Rattle.std.proofs.Common.{◌<◌, length}
use Rattle.fzn_parser.proofs.ListLaws.{AreListed}
use Rattle.fzn_parser.proofs.lists.listed.Given as goal

abbrev pub invariant-commas : goal.invariant-commas
invariant-commas g l =
    (length l.tokens < length l.fn.tokens)
    × AreListed g.P.Part.spell l.close l.fn.tokens l.parts l.tokens

abbrev pub decreases-commas : goal.decreases-commas
decreases-commas g l = length l.tokens
