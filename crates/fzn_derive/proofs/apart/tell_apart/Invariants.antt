use Rattle.std.proofs.Common.{◌≡◌, length}
use Rattle.std.specs.List.{All}
use Rattle.fzn_cited.specs.declared.fault.DeriveFault.{DeriveFault}
use Rattle.fzn_derive.specs.Apart.{two_by_two, pairs_cited, IsPairTold, IsPairsFault}
use Rattle.fzn_derive.proofs.apart.tell_apart.Given as goal

-- what is found of the rest is true of all
abbrev pub invariant-loop-first : goal.invariant-loop-first
invariant-loop-first l = record {
  one_each : length l.left ≡ length (two_by_two l.rest);
  told : All (IsPairTold l.given) (pairs_cited l.rest l.left) → All (IsPairTold l.given) (pairs_cited l.variables l.ids);
  fault : (fault : DeriveFault) → IsPairsFault l.given (pairs_cited l.rest l.left) fault → IsPairsFault l.given (pairs_cited l.variables l.ids) fault;
}

abbrev pub decreases-loop-first : goal.decreases-loop-first
decreases-loop-first l = length l.rest
