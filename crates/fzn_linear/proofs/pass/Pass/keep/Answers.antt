use Rattle.std.proofs.Common.{sym, subst}
use Rattle.fzn_linear.specs.declared.pass.Pass.{Pass}
use Rattle.fzn_linear.specs.Passes.{AddsFound}
use Rattle.fzn_linear.specs.Switched.{IsSwitchFixed}
use Rattle.fzn_linear.proofs.PassLemmas.{ok_then, side_left, side_ends, side_compares}
use Rattle.fzn_linear.proofs.pass.Pass.keep.Goals as goal

pub hold-requires-clause-decided : goal.hold-requires-clause-decided
hold-requires-clause-decided c = subst (λ (p : Pass). IsSwitchFixed p.trail.now.sets p.form.now.switch) (sym c.in-Some.ensures.some.0) c.requires.decided

pub hold-requires-clause-ends : goal.hold-requires-clause-ends
hold-requires-clause-ends c = side_ends c.in-Some.side c.args.self.now c.args.on c.in-Some.ensures.some c.args.ends c.requires.ends

pub hold-requires-clause-compares : goal.hold-requires-clause-compares
hold-requires-clause-compares c = side_compares c.in-Some.side c.args.self.now c.args.on c.in-Some.ensures.some c.requires.compares

pub returns-in-Some-clause-found : goal.returns-in-Some-clause-found
returns-in-Some-clause-found c = subst (λ (p : Pass). AddsFound p c.args.found.now c.hold.new.found) c.in-Some.ensures.some.0 c.hold.ensures.found

pub returns-in-Some-clause-none : goal.returns-in-Some-clause-none
returns-in-Some-clause-none c = ok_then c.hold.result c.hold.ensures.none (λ left empty switched. side_left c.in-Some.side c.args.self.now c.args.on c.in-Some.ensures.some (left empty))
