use Rattle.std.proofs.Common.{◌≡◌, arith, rules, sym, ap, ◌∙◌, to_z, w64, FitsSigned}
use Rattle.std.proofs.lemmas.Int.{to_z-of_z}
use Rattle.fzn_values.specs.Term.{numbers_in}
use Rattle.fzn_table.proofs.TableLemmas.{row_below, unequal}
use Rattle.fzn_table.proofs.table.next_row.Goals as goal

pub returns-in-Equal-clause-between : goal.returns-in-Equal-clause-between
returns-in-Equal-clause-between c = λ s after below.
    let pass = c.args.pass.now in
    let count = c.count.ensures in
    let least = c.min.ensures in
    let number_fits : FitsSigned w64 c.number_at.result = search rules in
    let bound_fits : FitsSigned w64 c.args.bound.now = search rules in
    let same : c.number_at.result ≡ c.args.bound.now = sym (to_z-of_z w64 c.number_at.result number_fits) ∙ ap (to_z w64) c.if-number_at-bound.true ∙ to_z-of_z w64 c.args.bound.now bound_fits in
    let apart = c.next_with.ensures.between pass.places.now (numbers_in pass.rows.now) pass.chained s after (omega (arith, below, least)) (row_below pass c.args.r c.requires.row) (row_below pass s (omega (arith, below, least, count))) in
    rw c.in-Equal.is (unequal _ _ (λ equal. apart (equal ∙ sym same ∙ c.number_at.ensures)))
