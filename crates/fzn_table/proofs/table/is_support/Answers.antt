use Rattle.std.proofs.Common.{ℕ, ◌<◌, sym, ap, subst, ◌∙◌, rules, w64, to_z, FitsSigned}
use Rattle.std.proofs.lemmas.Int.{to_z-of_z}
use Rattle.fzn_table.proofs.TableLemmas.{row_below}
use Rattle.fzn_table.proofs.table.is_support.Goals as goal

pub returns-then-number_at-value-clause-support : goal.returns-then-number_at-value-clause-support
returns-then-number_at-value-clause-support c = λ told.
    let number = c.number_at.result in
    let fits : FitsSigned w64 number = search rules in
    let value_fits : FitsSigned w64 c.args.value.now = search rules in (
      c.in-Some.r,
      record {
        whole = row_below c.args.pass.now c.in-Some.r (subst (λ (n : ℕ). c.in-Some.r < n) c.count.ensures c.if-r-count.true);
        has_value = sym c.number_at.ensures ∙ sym (to_z-of_z w64 number fits) ∙ ap (to_z w64) c.if-number_at-value.true ∙ to_z-of_z w64 c.args.value.now value_fits;
        is_open = c.is_open_row.ensures.open told;
      },
    )
