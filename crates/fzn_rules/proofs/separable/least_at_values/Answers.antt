use Rattle.std.proofs.Common.{rules, FitsSigned, w64}
use Rattle.std.proofs.lemmas.Int.{to_z-of_z}
use Rattle.fzn_rules.proofs.LeastLemmas.{least-listed}
use Rattle.fzn_rules.proofs.separable.least_at_values.Goals as goal

pub returns-in-Some-clause-least : goal.returns-in-Some-clause-least
returns-in-Some-clause-least c =
    let coefficient : FitsSigned w64 c.args.part.now.coefficient = search rules in
    let least = simp to_z-of_z at c.least_listed.ensures.least in
    least-listed c.args.set.now c.args.part.now c.in-Some.listed c.least_listed.result c.in-Some.is least
