use Rattle.std.proofs.Common.{subst}
use Rattle.fzn_linear.specs.declared.pass.Pass.{Pass}
use Rattle.fzn_linear.specs.Passes.{AddsFound}
use Rattle.fzn_linear.proofs.PassLemmas.{side_ends}
use Rattle.fzn_linear.proofs.pass.Pass.decide.Goals as goal

pub decide-requires : goal.decide-requires
decide-requires c = side_ends c.in-Some.side c.args.self.now c.args.on c.in-Some.ensures.some c.args.ends c.requires

pub returns-in-Some : goal.returns-in-Some
returns-in-Some c = subst (λ (p : Pass). AddsFound p c.args.found.now c.decide.new.found) c.in-Some.ensures.some.0 c.decide.ensures
