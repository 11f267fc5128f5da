use Rattle.std.proofs.Common.{◌≡◌, length}
use Rattle.fzn_mending.specs.Mending.{number_named}
use Rattle.fzn_mending.proofs.mending.number_named.Given as goal

-- what is found from here on is what is found from the start
abbrev pub invariant-loop-params : goal.invariant-loop-params
invariant-loop-params l = number_named l.params l.text ≡ number_named l.initial.params l.text

abbrev pub decreases-loop-params : goal.decreases-loop-params
decreases-loop-params l = length l.params
