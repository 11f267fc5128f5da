use Rattle.std.proofs.Common.{◌≡◌, take, map}
use Rattle.fzn_derive.specs.Parity.{variable_with}
use Rattle.fzn_derive.proofs.parity.inputs_from.Given as goal

abbrev pub invariant-loop-number : goal.invariant-loop-number
invariant-loop-number l = l.inputs ≡ map variable_with (take l.number-index l.odd)
