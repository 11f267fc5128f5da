use Rattle.std.proofs.Common.{length}
use Rattle.fzn_meaning.specs.declared.constraint.Constraint.TheVariants as constraint
use Rattle.fzn_equality.specs.Shared.{IsMetApart}
use Rattle.fzn_equality.proofs.EqualityLemmas.{met_asked}
use Rattle.fzn_equality.proofs.equality.infer_equal.Goals as goal
use Rattle.fzn_equality.proofs.equality.infer_equal.Goals.{In-Some-unasked}

met : (c : In-Some-unasked) → IsMetApart (length c.args.trail.now.declared) c.in-Some-unasked.unasked c.args.left c.args.right (constraint.Compare c.args.relation c.args.left c.args.right c.args.switch)
met c = met_asked (length c.args.trail.now.declared) c.args.relation c.args.left c.args.right c.args.switch c.in-Some-unasked.unasked c.requires.switch c.in-Some-unasked.ensures.denied

pub explain_apart-requires-clause-besides : goal.explain_apart-requires-clause-besides
explain_apart-requires-clause-besides c = c.in-Some-unasked.ensures.term (length c.args.trail.now.declared) c.requires.switch

pub explain_shared-requires : goal.explain_shared-requires
explain_shared-requires c = c.in-Some-unasked.ensures.term (length c.args.trail.now.declared) c.requires.switch

pub returns-in-Some-bound_of : goal.returns-in-Some-bound_of
returns-in-Some-bound_of c = c.explain_apart.ensures _ (met (goal.at.returns-in-Some-bound_of c).In-Some-unasked)

pub returns-in-None : goal.returns-in-None
returns-in-None c = c.explain_shared.ensures _ (met (goal.at.returns-in-None c).In-Some-unasked)
