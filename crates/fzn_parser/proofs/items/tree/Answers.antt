-- Behind the items stands the end, or the first fault.
use Rattle.std.proofs.Common.{Err, refl, ap}
use Rattle.fzn_parser.proofs.WholeLaws.{items_refused, whole_read, whole_refused, handed_on, refusal_is}
use Rattle.fzn_parser.proofs.items.tree.Goals as goal

pub returns-in_err-tree-clause-err : goal.returns-in_err-tree-clause-err
returns-in_err-tree-clause-err c = handed_on c.from_residual.ensures.1 (λ e is. items_refused _ c.requires e (c.in_err-tree.ensures.reads.err e (ap Err is)))

pub returns-in_err-end-clause-err : goal.returns-in_err-end-clause-err
returns-in_err-end-clause-err c =
    handed_on c.from_residual-in_err-end.ensures.1
    (λ e is. let p = c.in_err-end.ensures.err e (ap Err is) in refusal_is p.0 (whole_refused _ c.requires _ _ (c.in_ok-tree.ensures.reads.ok _ refl) p.1))

pub returns-clause-ok : goal.returns-clause-ok
returns-clause-ok c = whole_read _ c.requires _ _ (c.in_ok-tree.ensures.reads.ok _ refl) c.in_ok-end.ensures.ok
