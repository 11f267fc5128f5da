-- A bracket, and the entries up to the closing one.
use Rattle.fzn_parser.proofs.ValueLaws.{entries_listed, array_of}
use Rattle.fzn_parser.proofs.Onward.{begin, ◌then◌, stop, stop_last, done}
use Rattle.fzn_parser.proofs.values.array.Goals as goal

pub listed-requires : goal.listed-requires
listed-requires c = record { listed = entries_listed }

pub returns-in_err-position-clause-reads : goal.returns-in_err-position-clause-reads
returns-in_err-position-clause-reads c = stop (begin (array_of _)) c.in_err-position.ensures.reads c.from_residual.ensures.1

pub returns-in_err-entries-clause-reads : goal.returns-in_err-entries-clause-reads
returns-in_err-entries-clause-reads c = stop_last (begin (array_of _) then c.in_ok-position.ensures.reads) c.in_err-entries.ensures.reads c.from_residual-in_err-entries.ensures.1

pub returns-clause-reads : goal.returns-clause-reads
returns-clause-reads c = done (begin (array_of _) then c.in_ok-position.ensures.reads) c.in_ok-entries.ensures.reads
