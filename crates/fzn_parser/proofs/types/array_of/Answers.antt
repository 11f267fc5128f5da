-- One part behind another.
use Rattle.fzn_parser.proofs.TypeLaws.{array_size}
use Rattle.fzn_parser.proofs.Onward.{begin, ◌then◌, stop, stop_last, done}
use Rattle.fzn_parser.proofs.types.array_of.Goals as goal

pub returns-in_err-position-clause-reads : goal.returns-in_err-position-clause-reads
returns-in_err-position-clause-reads c = stop (begin (array_size _)) c.in_err-position.ensures.reads c.from_residual.ensures.1

pub returns-in_err-symbol-clause-reads : goal.returns-in_err-symbol-clause-reads
returns-in_err-symbol-clause-reads c = stop (begin (array_size _) then c.in_ok-position.ensures.reads) c.in_err-symbol.ensures.reads c.from_residual-in_err-symbol.ensures.1

pub returns-in_err-count-clause-reads : goal.returns-in_err-count-clause-reads
returns-in_err-count-clause-reads c = stop (begin (array_size _) then c.in_ok-position.ensures.reads then c.in_ok-symbol.ensures.reads) c.in_err-count.ensures.reads c.from_residual-in_err-count.ensures.1

pub returns-in_err-symbol-2-clause-reads : goal.returns-in_err-symbol-2-clause-reads
returns-in_err-symbol-2-clause-reads c = stop (begin (array_size _) then c.in_ok-position.ensures.reads then c.in_ok-symbol.ensures.reads then c.in_ok-count.ensures.reads) c.in_err-symbol-2.ensures.reads c.from_residual-in_err-symbol-2.ensures.1

pub returns-in_err-symbol-3-clause-reads : goal.returns-in_err-symbol-3-clause-reads
returns-in_err-symbol-3-clause-reads c = stop_last (begin (array_size _) then c.in_ok-position.ensures.reads then c.in_ok-symbol.ensures.reads then c.in_ok-count.ensures.reads then c.in_ok-symbol-2.ensures.reads) c.in_err-symbol-3.ensures.reads c.from_residual-in_err-symbol-3.ensures.1

pub returns-clause-reads : goal.returns-clause-reads
returns-clause-reads c = done (begin (array_size _) then c.in_ok-position.ensures.reads then c.in_ok-symbol.ensures.reads then c.in_ok-count.ensures.reads then c.in_ok-symbol-2.ensures.reads) c.in_ok-symbol-3.ensures.reads
