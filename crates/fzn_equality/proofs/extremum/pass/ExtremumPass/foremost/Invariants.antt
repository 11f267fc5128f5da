use Rattle.std.proofs.Common.{◌<◌, length, IfSome}
use Rattle.fzn_domain.specs.Limits.{IsNearLimits}
use Rattle.fzn_equality.proofs.extremum.pass.ExtremumPass.foremost.Given as goal

abbrev pub invariant-loop-k : goal.invariant-loop-k
invariant-loop-k l = record {
  place : IfSome l.found (λ f. f.0 < length l.self.entries.now);
  number : IfSome l.found (λ f. IsNearLimits f.1);
}
