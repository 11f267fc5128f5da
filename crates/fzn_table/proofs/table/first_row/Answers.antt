use Rattle.std.proofs.Common.{arith}
use Rattle.fzn_values.specs.Term.{numbers_in}
use Rattle.fzn_table.proofs.TableLemmas.{row_below, unequal}
use Rattle.fzn_table.proofs.table.first_row.Goals as goal

pub returns-in-Equal-clause-before : goal.returns-in-Equal-clause-before
returns-in-Equal-clause-before c = λ r below.
    let pass = c.args.pass.now in
    let count = c.count.ensures in
    let least = c.min.ensures in
    rw c.in-Equal.is (unequal _ _ (c.first_with.ensures pass.places.now (numbers_in pass.rows.now) pass.chained r (omega (arith, below, least)) (row_below pass r (omega (arith, below, least, count)))))
