use Rattle.std.proofs.Common.{arith, ◌∙◌, sym, ap, ◌≤ℤ◌, w64, to_z, of_z}
use Rattle.std.proofs.lemmas.Int.{ints}
use Rattle.fzn_domain.proofs.DomainLemmas.{real}
use Rattle.fzn_meaning.specs.Separable.{weight_at}
use Rattle.fzn_levels.proofs.WeightLemmas.{from_on, at_weight}
use Rattle.fzn_levels.proofs.explain.lowest.Goals as goal

pub returns-in-Some-clause-heavy : goal.returns-in-Some-clause-heavy
returns-in-Some-clause-heavy c =
    let le : c.args.level ≤ℤ c.in-Some.weight = omega (arith, ints) in
    from_on c.args.part.now c.requires.plain (to_z w64 (of_z w64 c.clamp-low.result)) c.args.level c.requires.coefficient
    (λ w is. at_weight c.weight_at.result c.in-Some.weight w c.args.level c.in-Some.is (c.weight_at.ensures.value ∙ is) le)

pub returns-in_default-clause-heavy : goal.returns-in_default-clause-heavy
returns-in_default-clause-heavy c =
    let bits = real c.args.least c.requires.least in
    from_on c.args.part.now c.requires.plain (to_z w64 (of_z w64 c.args.least)) c.args.level c.requires.coefficient
    (λ w is. c.requires.present w (ap (weight_at c.args.part.now) (sym bits) ∙ is))
