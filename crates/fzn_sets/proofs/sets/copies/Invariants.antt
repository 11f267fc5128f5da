use Rattle.std.proofs.Common.{◌≡◌, take}
use Rattle.fzn_sets.proofs.sets.copies.Given as goal

abbrev pub invariant-loop-domain : goal.invariant-loop-domain
invariant-loop-domain l = l.all.items ≡ take l.domain-index l.domains.items
