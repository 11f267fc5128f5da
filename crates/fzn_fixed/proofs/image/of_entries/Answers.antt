use Rattle.std.proofs.Common.{rules, arith}
use Rattle.std.proofs.lemmas.Int.{ints}
use Rattle.fzn_fixed.proofs.ImageLemmas.{extremum_at}
use Rattle.fzn_fixed.proofs.image.of_entries.Goals as goal

pub returns : goal.returns
returns c = λ r. extremum_at c.args.extreme c.args.entries.now c.place_of.result _ r c.place_of.ensures.inside c.place_of.ensures.bounds (first_of (omega (arith, ints), search rules))
