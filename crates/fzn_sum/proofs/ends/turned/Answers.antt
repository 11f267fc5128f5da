use Rattle.std.proofs.Common.{rules, w64, FitsSigned}
use Rattle.std.proofs.lemmas.Int.{to_z-of_z}
use Rattle.fzn_sum.proofs.EndLemmas.{turned_ends, negative}
use Rattle.fzn_sum.proofs.ends.turned.Goals as goal

pub returns : goal.returns
returns c = λ sets places are.
    let fits : FitsSigned w64 c.args.ends.widest = search rules in
    turned_ends sets places c.args.ends _ (negative c.args.ends.greatest c.requires.greatest) (negative c.args.ends.least c.requires.least) (to_z-of_z w64 c.args.ends.widest fits) are
