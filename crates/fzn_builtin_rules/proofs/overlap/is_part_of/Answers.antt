use Rattle.std.proofs.Common.{arith}
use Rattle.std.proofs.lemmas.Bool.{false≢true}
use Rattle.fzn_builtin_rules.proofs.OverlapLemmas.{part_is_smaller, part_of_no_gap}
use Rattle.fzn_builtin_rules.proofs.overlap.is_part_of.Goals as goal

-- the second set has fewer members
pub returns-then-len : goal.returns-then-len
returns-then-len c = (λ yes. absurd (false≢true yes), λ part. absurd (part_is_smaller c.args.first.now c.args.second.now (omega arith) part))

-- a set without a gap
pub returns-then-has_no_gap : goal.returns-then-has_no_gap
returns-then-has_no_gap c =
    let same = part_of_no_gap c.args.first.now c.args.second.now c.requires (c.has_no_gap.ensures c.if-has_no_gap.true) in
    (λ yes. same.0 (c.spans.ensures.0 yes), λ part. c.spans.ensures.1 (same.1 part))
