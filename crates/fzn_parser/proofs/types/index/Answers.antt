-- One token behind another.
use Rattle.std.proofs.Common.{refl}
use Rattle.fzn_parser.proofs.TypeLaws.{index_of}
use Rattle.fzn_parser.proofs.Onward.{begin, ◌then◌, stop, passes}
use Rattle.fzn_parser.proofs.types.index.Goals as goal

pub returns-in_err-one-clause-reads : goal.returns-in_err-one-clause-reads
returns-in_err-one-clause-reads c = stop (begin (index_of _)) c.in_err-one.ensures.reads c.from_residual.ensures.1

pub returns-in_err-symbol-clause-reads : goal.returns-in_err-symbol-clause-reads
returns-in_err-symbol-clause-reads c = stop (begin (index_of _) then c.in_ok-one.ensures.reads) c.in_err-symbol.ensures.reads c.from_residual-in_err-symbol.ensures.1

pub returns-clause-reads : goal.returns-clause-reads
returns-clause-reads c = passes (begin (index_of _) then c.in_ok-one.ensures.reads then c.in_ok-symbol.ensures.reads) (λ n. refl) c.size.ensures.reads
