use Rattle.std.proofs.Common.{FitsSigned, w64, rules, sym, ap, ◌∙◌, to_z-of_z}
use Rattle.fzn_domain.specs.Literal.{is_true_at}
use Rattle.fzn_domain.specs.declared.literal.Op.{Op}
use Rattle.fzn_clauses.specs.Keys.{equal_at}
use Rattle.fzn_clauses.proofs.state.is_cleared.Goals as goal

pub returns-in-Equal : goal.returns-in-Equal
returns-in-Equal c =
    let fits : FitsSigned w64 c.args.lit.value = search rules in
    c.is_true_at.ensures ∙ ap (is_true_at c.args.entry) (to_z-of_z fits) ∙ sym (ap (λ (op : Op). equal_at op (is_true_at c.args.entry c.args.lit.value)) c.in-Equal.is)
