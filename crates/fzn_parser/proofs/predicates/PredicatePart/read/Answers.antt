-- One part behind another.
use Rattle.fzn_parser.proofs.PredicateLaws.{params_listed, predicate_begun}
use Rattle.fzn_parser.proofs.Onward.{begin, ◌then◌, stop, stop_last, done}
use Rattle.fzn_parser.proofs.predicates.PredicatePart.read.Goals as goal

pub listed-requires : goal.listed-requires
listed-requires c = record { listed = params_listed }

pub returns-in_err-position-clause-reads : goal.returns-in_err-position-clause-reads
returns-in_err-position-clause-reads c = stop (begin (predicate_begun _)) c.in_err-position.ensures.reads c.from_residual.ensures.1

pub returns-in_err-name-clause-reads : goal.returns-in_err-name-clause-reads
returns-in_err-name-clause-reads c = stop (begin (predicate_begun _) then c.in_ok-position.ensures.reads) c.in_err-name.ensures.reads c.from_residual-in_err-name.ensures.1

pub returns-in_err-symbol-clause-reads : goal.returns-in_err-symbol-clause-reads
returns-in_err-symbol-clause-reads c = stop (begin (predicate_begun _) then c.in_ok-position.ensures.reads then c.in_ok-name.ensures.reads) c.in_err-symbol.ensures.reads c.from_residual-in_err-symbol.ensures.1

pub returns-in_err-params-clause-reads : goal.returns-in_err-params-clause-reads
returns-in_err-params-clause-reads c = stop (begin (predicate_begun _) then c.in_ok-position.ensures.reads then c.in_ok-name.ensures.reads then c.in_ok-symbol.ensures.reads) c.in_err-params.ensures.reads c.from_residual-in_err-params.ensures.1

pub returns-in_err-symbol-2-clause-reads : goal.returns-in_err-symbol-2-clause-reads
returns-in_err-symbol-2-clause-reads c = stop_last (begin (predicate_begun _) then c.in_ok-position.ensures.reads then c.in_ok-name.ensures.reads then c.in_ok-symbol.ensures.reads then c.in_ok-params.ensures.reads) c.in_err-symbol-2.ensures.reads c.from_residual-in_err-symbol-2.ensures.1

pub returns-clause-reads : goal.returns-clause-reads
returns-clause-reads c = done (begin (predicate_begun _) then c.in_ok-position.ensures.reads then c.in_ok-name.ensures.reads then c.in_ok-symbol.ensures.reads then c.in_ok-params.ensures.reads) c.in_ok-symbol-2.ensures.reads
