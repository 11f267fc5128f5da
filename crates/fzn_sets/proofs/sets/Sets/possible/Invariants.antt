use Rattle.std.proofs.Common.{take}
use Rattle.fzn_domain.specs.Narrow.{possible_in}
use Rattle.fzn_sets.specs.Sets.{IsPossibleIn}
use Rattle.fzn_sets.proofs.sets.Sets.possible.Given as goal

abbrev pub invariant-loop-lit : goal.invariant-loop-lit
invariant-loop-lit l = IsPossibleIn (possible_in l.self.present (take l.lit-index l.clause)) l.found
