use Rattle.std.proofs.Common.{arith, length}
use Rattle.std.proofs.lemmas.Int.{ints}
use Rattle.fzn_domain.specs.declared.literal.Lit.{Lit}
use Rattle.fzn_domain.specs.Narrow.{IsVariable}
use Rattle.fzn_propagator.specs.Clause.{IsWritable}
use Rattle.fzn_propagator.proofs.ForcingLemmas.{possible-literal}
use Rattle.fzn_propagator.proofs.forcing.is_forcing.Goals as goal

pub domain-requires : goal.domain-requires
domain-requires c =
    possible-literal (λ (l : Lit). IsVariable (length c.args.trail.now.declared) l.var) c.sets.result.now.present c.args.clause.now c.in-One.lit c.requires.over c.in-One.ensures

pub negated-requires-clause-above_least : goal.negated-requires-clause-above_least
negated-requires-clause-above_least c =
    let near = possible-literal IsWritable c.sets.result.now.present c.args.clause.now c.in-One.lit c.requires.writable c.in-One.ensures in
    omega (arith, ints, near.0)

pub negated-requires-clause-below_greatest : goal.negated-requires-clause-below_greatest
negated-requires-clause-below_greatest c =
    let near = possible-literal IsWritable c.sets.result.now.present c.args.clause.now c.in-One.lit c.requires.writable c.in-One.ensures in
    omega (arith, ints, near.1)
