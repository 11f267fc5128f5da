-- One part behind another.
use Rattle.fzn_parser.proofs.PredicateLaws.{param_begun}
use Rattle.fzn_parser.proofs.Onward.{begin, ◌then◌, stop, stop_last, done}
use Rattle.fzn_parser.proofs.predicates.PredicateParamPart.read.Goals as goal

pub returns-in_err-array-clause-reads : goal.returns-in_err-array-clause-reads
returns-in_err-array-clause-reads c = stop (begin (param_begun _)) c.in_err-array.ensures.reads c.from_residual.ensures.1

pub returns-in_err-is_var-clause-reads : goal.returns-in_err-is_var-clause-reads
returns-in_err-is_var-clause-reads c = stop (begin (param_begun _) then c.in_ok-array.ensures.reads) c.in_err-is_var.ensures.reads c.from_residual-in_err-is_var.ensures.1

pub returns-in_err-base-clause-reads : goal.returns-in_err-base-clause-reads
returns-in_err-base-clause-reads c = stop (begin (param_begun _) then c.in_ok-array.ensures.reads then c.in_ok-is_var.ensures.reads) c.in_err-base.ensures.reads c.from_residual-in_err-base.ensures.1

pub returns-in_err-symbol-clause-reads : goal.returns-in_err-symbol-clause-reads
returns-in_err-symbol-clause-reads c = stop (begin (param_begun _) then c.in_ok-array.ensures.reads then c.in_ok-is_var.ensures.reads then c.in_ok-base.ensures.reads) c.in_err-symbol.ensures.reads c.from_residual-in_err-symbol.ensures.1

pub returns-in_err-name-clause-reads : goal.returns-in_err-name-clause-reads
returns-in_err-name-clause-reads c = stop_last (begin (param_begun _) then c.in_ok-array.ensures.reads then c.in_ok-is_var.ensures.reads then c.in_ok-base.ensures.reads then c.in_ok-symbol.ensures.reads) c.in_err-name.ensures.reads c.from_residual-in_err-name.ensures.1

pub returns-clause-reads : goal.returns-clause-reads
returns-clause-reads c = done (begin (param_begun _) then c.in_ok-array.ensures.reads then c.in_ok-is_var.ensures.reads then c.in_ok-base.ensures.reads then c.in_ok-symbol.ensures.reads) c.in_ok-name.ensures.reads
