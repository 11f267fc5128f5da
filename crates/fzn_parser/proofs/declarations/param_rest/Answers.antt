-- One part behind another.
use Rattle.fzn_parser.proofs.ParamLaws.{param_rest_begun}
use Rattle.fzn_parser.proofs.Onward.{begin, ◌then◌, stop, stop_last, done}
use Rattle.fzn_parser.proofs.declarations.param_rest.Goals as goal

pub returns-in_err-base-clause-reads : goal.returns-in_err-base-clause-reads
returns-in_err-base-clause-reads c = stop (begin (param_rest_begun _)) c.in_err-base.ensures.reads c.from_residual.ensures.1

pub returns-in_err-symbol-clause-reads : goal.returns-in_err-symbol-clause-reads
returns-in_err-symbol-clause-reads c = stop (begin (param_rest_begun _) then c.in_ok-base.ensures.reads) c.in_err-symbol.ensures.reads c.from_residual-in_err-symbol.ensures.1

pub returns-in_err-name-clause-reads : goal.returns-in_err-name-clause-reads
returns-in_err-name-clause-reads c = stop (begin (param_rest_begun _) then c.in_ok-base.ensures.reads then c.in_ok-symbol.ensures.reads) c.in_err-name.ensures.reads c.from_residual-in_err-name.ensures.1

pub returns-in_err-symbol-2-clause-reads : goal.returns-in_err-symbol-2-clause-reads
returns-in_err-symbol-2-clause-reads c = stop (begin (param_rest_begun _) then c.in_ok-base.ensures.reads then c.in_ok-symbol.ensures.reads then c.in_ok-name.ensures.reads) c.in_err-symbol-2.ensures.reads c.from_residual-in_err-symbol-2.ensures.1

pub returns-in_err-value-clause-reads : goal.returns-in_err-value-clause-reads
returns-in_err-value-clause-reads c = stop (begin (param_rest_begun _) then c.in_ok-base.ensures.reads then c.in_ok-symbol.ensures.reads then c.in_ok-name.ensures.reads then c.in_ok-symbol-2.ensures.reads) c.in_err-value.ensures.reads c.from_residual-in_err-value.ensures.1

pub returns-in_err-symbol-3-clause-reads : goal.returns-in_err-symbol-3-clause-reads
returns-in_err-symbol-3-clause-reads c = stop_last (begin (param_rest_begun _) then c.in_ok-base.ensures.reads then c.in_ok-symbol.ensures.reads then c.in_ok-name.ensures.reads then c.in_ok-symbol-2.ensures.reads then c.in_ok-value.ensures.reads) c.in_err-symbol-3.ensures.reads c.from_residual-in_err-symbol-3.ensures.1

pub returns-clause-reads : goal.returns-clause-reads
returns-clause-reads c = done (begin (param_rest_begun _) then c.in_ok-base.ensures.reads then c.in_ok-symbol.ensures.reads then c.in_ok-name.ensures.reads then c.in_ok-symbol-2.ensures.reads then c.in_ok-value.ensures.reads) c.in_ok-symbol-3.ensures.reads
