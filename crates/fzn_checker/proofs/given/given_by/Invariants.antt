use Rattle.std.proofs.Common.{◌≡◌, take}
use Rattle.fzn_checker.specs.Given.{given_by}
use Rattle.fzn_checker.proofs.given.given_by.Given as goal

abbrev pub invariant-loop-var : goal.invariant-loop-var
invariant-loop-var l = l.given.items ≡ given_by (take l.var-index l.vars) l.values
