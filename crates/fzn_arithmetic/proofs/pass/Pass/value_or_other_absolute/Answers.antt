use Rattle.std.proofs.Common.{◌∷◌, [], arith, w64, to_z, of_z}
use Rattle.std.proofs.lemmas.Int.{ints}
use Rattle.fzn_terms.proofs.ExplanationLemmas.{justified_found}
use Rattle.fzn_arithmetic.specs.Excluded.{rule_of}
use Rattle.fzn_arithmetic.specs.Passes.{shape_constraint}
use Rattle.fzn_arithmetic.proofs.ExcludedLemmas.{refuted_absolute}
use Rattle.fzn_arithmetic.proofs.pass.Pass.value_or_other_absolute.Goals as goal

pub returns : goal.returns
returns c =
    let pass = c.args.self.now in
    let limits = c.requires.value in
    justified_found c.explanation_of.result pass.trail.now (c.other_than-other.result ∷ c.equal-equal.result ∷ c.equal-opposite.result ∷ []) (shape_constraint pass) (rule_of pass.shape)
    (refuted_absolute pass (to_z w64 (of_z w64 c.args.value)) _ c.other_than-other.result c.equal-equal.result c.equal-opposite.result c.requires.absolute (omega (arith, ints, limits.0, limits.1)) c.other_than-other.ensures.denied c.equal-equal.ensures.denied c.equal-opposite.ensures.denied)
    c.explanation_of.ensures
