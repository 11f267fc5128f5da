use Rattle.std.proofs.Common.{arith, ap, ◌∙◌}
use Rattle.std.proofs.lemmas.Int.{ints}
use Rattle.fzn_domain.specs.IntSet.{least}
use Rattle.fzn_fixed.proofs.DenialLemmas.{other_value_is}
use Rattle.fzn_fixed.proofs.pass.Pass.other_value.Goals as goal

pub returns-clause-found : goal.returns-clause-found
returns-clause-found c =
    other_value_is c.args.self.now.trail.now c.args.term c.in-Variable.var c.min.result _ c.in-Variable.is c.min.ensures.in_limits (c.min.ensures.value ∙ ap least c.domain.ensures.value) (omega (arith, ints)) c.requires.fixed
