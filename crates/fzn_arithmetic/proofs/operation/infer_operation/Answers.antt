use Rattle.std.proofs.Common.{sym, subst}
use Rattle.fzn_meaning.specs.declared.constraint.Constraint.{Constraint}
use Rattle.fzn_propagator.specs.Inference.{AreFoundOf}
use Rattle.fzn_arithmetic.proofs.operation.infer_operation.Goals as goal

pub find-requires : goal.find-requires
find-requires c = subst (λ (C : Constraint). AreFoundOf c.args.number C c.args.trail.now c.args.found.now) (sym (c.in-Some.ensures c.args.left c.args.right c.args.of)) c.requires.before

pub returns : goal.returns
returns c = subst (λ (C : Constraint). AreFoundOf c.args.number C c.args.trail.now c.find.new.found) (c.in-Some.ensures c.args.left c.args.right c.args.of) c.find.ensures
