use Rattle.std.proofs.Common.{◌≡◌, take}
use Rattle.fzn_names.specs.Variables.{vars_of}
use Rattle.fzn_names.proofs.domain.vars_of.Given as goal

-- those so far
abbrev pub invariant-loop-var : goal.invariant-loop-var
invariant-loop-var l = l.found ≡ vars_of (take l.var-index l.vars)
