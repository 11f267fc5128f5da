use Rattle.std.proofs.Common.{◌∷◌, [], arith}
use Rattle.std.proofs.lemmas.Int.{ints}
use Rattle.fzn_rules.specs.declared.rule.Rule.TheVariants as rule
use Rattle.fzn_terms.proofs.ExplanationLemmas.{justified_found}
use Rattle.fzn_equality.specs.ExtremumPasses.{extremum_constraint}
use Rattle.fzn_equality.proofs.EntryLemmas.{refuted_passing}
use Rattle.fzn_equality.proofs.extremum.pass.ExtremumPass.entry_or_extremum.Goals as goal

pub returns : goal.returns
returns c =
    let pass = c.args.self.now in
    let order = c.in_order-lower in
    justified_found c.explanation_of.result pass.trail.now (c.above.result ∷ c.below.result ∷ []) (extremum_constraint pass) rule.Rows
    (refuted_passing pass c.args.place _ order.result.0 order.result.1 _ _ c.above.result c.below.result c.requires.place order.ensures.lower order.ensures.upper (omega (arith, ints)) c.above.ensures.denied c.below.ensures.denied order.ensures.passes)
    c.explanation_of.ensures
