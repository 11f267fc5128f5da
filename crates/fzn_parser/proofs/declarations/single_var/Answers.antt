-- One part behind another.
use Rattle.fzn_parser.proofs.VarLaws.{single_begun}
use Rattle.fzn_parser.proofs.Onward.{begin, ◌then◌, stop, stop_last, done}
use Rattle.fzn_parser.proofs.declarations.single_var.Goals as goal

pub returns-in_err-position-clause-reads : goal.returns-in_err-position-clause-reads
returns-in_err-position-clause-reads c = stop (begin (single_begun _)) c.in_err-position.ensures.reads c.from_residual.ensures.1

pub returns-in_err-base-clause-reads : goal.returns-in_err-base-clause-reads
returns-in_err-base-clause-reads c = stop (begin (single_begun _) then c.in_ok-position.ensures.reads) c.in_err-base.ensures.reads c.from_residual-in_err-base.ensures.1

pub returns-in_err-symbol-clause-reads : goal.returns-in_err-symbol-clause-reads
returns-in_err-symbol-clause-reads c = stop (begin (single_begun _) then c.in_ok-position.ensures.reads then c.in_ok-base.ensures.reads) c.in_err-symbol.ensures.reads c.from_residual-in_err-symbol.ensures.1

pub returns-in_err-name-clause-reads : goal.returns-in_err-name-clause-reads
returns-in_err-name-clause-reads c = stop (begin (single_begun _) then c.in_ok-position.ensures.reads then c.in_ok-base.ensures.reads then c.in_ok-symbol.ensures.reads) c.in_err-name.ensures.reads c.from_residual-in_err-name.ensures.1

pub returns-in_err-anns-clause-reads : goal.returns-in_err-anns-clause-reads
returns-in_err-anns-clause-reads c = stop (begin (single_begun _) then c.in_ok-position.ensures.reads then c.in_ok-base.ensures.reads then c.in_ok-symbol.ensures.reads then c.in_ok-name.ensures.reads) c.in_err-anns.ensures.reads c.from_residual-in_err-anns.ensures.1

pub returns-in_err-value-clause-reads : goal.returns-in_err-value-clause-reads
returns-in_err-value-clause-reads c = stop_last (begin (single_begun _) then c.in_ok-position.ensures.reads then c.in_ok-base.ensures.reads then c.in_ok-symbol.ensures.reads then c.in_ok-name.ensures.reads then c.in_ok-anns.ensures.reads) c.in_err-value.ensures.reads c.from_residual-in_err-value.ensures.1

pub returns-clause-reads : goal.returns-clause-reads
returns-clause-reads c = done (begin (single_begun _) then c.in_ok-position.ensures.reads then c.in_ok-base.ensures.reads then c.in_ok-symbol.ensures.reads then c.in_ok-name.ensures.reads then c.in_ok-anns.ensures.reads) c.in_ok-value.ensures.reads
