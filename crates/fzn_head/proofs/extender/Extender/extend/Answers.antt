-- How many terms the model may have stays as it is.
use Rattle.std.proofs.Common.{ap, arith}
use Rattle.fzn_head.specs.Extended.{terms_held_in}
use Rattle.fzn_head.proofs.ExtendedLaws.{terms-more}
use Rattle.fzn_head.proofs.extender.Extender.extend.Goals as goal

pub returns-clause-same_most : goal.returns-clause-same_most
returns-clause-same_most c =
    omega (arith, terms-more c.args.model.now.constraints c.in_ok-constraint.constraint, ap terms_held_in c.in_ok-push.ensures.ok, c.terms_held-terms.ensures, c.if-terms-self.false)
