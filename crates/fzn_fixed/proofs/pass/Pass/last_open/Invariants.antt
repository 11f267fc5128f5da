use Rattle.std.proofs.Common.{◌<◌, length, IfSome}
use Rattle.fzn_fixed.proofs.pass.Pass.last_open.Given as goal

abbrev pub invariant-loop-k : goal.invariant-loop-k
invariant-loop-k l = IfSome l.found (λ place. place < length l.self.inputs.now)
