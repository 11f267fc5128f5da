use Rattle.fzn_domain.specs.Limits.{IsInLimits}
use Rattle.fzn_builtin.proofs.member.Pass.are_all.Given as goal

abbrev pub invariant-loop : goal.invariant-loop
invariant-loop l = IsInLimits l.from
