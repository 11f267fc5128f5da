use Rattle.std.proofs.Common.{rules, arith, ◌+ℤ◌, ◌≤ℤ◌, w64, FitsSigned}
use Rattle.std.proofs.lemmas.Int.{ints, to_z-of_z}
use Rattle.fzn_sum.proofs.EndLemmas.{tight_by_ends}
use Rattle.fzn_sum.proofs.ends.is_tight.Goals as goal

pub returns : goal.returns
returns c = λ tight sets places are.
    let narrow : FitsSigned w64 c.args.ends.widest = search rules in
    let within : (c.args.ends.least +ℤ c.args.ends.widest) ≤ℤ c.args.bound = grind (arith, ints, to_z-of_z) in
    tight_by_ends sets places c.args.ends c.args.bound are within
