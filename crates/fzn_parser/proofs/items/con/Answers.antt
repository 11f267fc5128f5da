-- One part behind another.
use Rattle.fzn_parser.proofs.ValueLaws.{args_listed}
use Rattle.fzn_parser.proofs.ItemLaws.{con_begun}
use Rattle.fzn_parser.proofs.Onward.{begin, ◌then◌, stop, stop_last, done}
use Rattle.fzn_parser.proofs.items.con.Goals as goal

pub listed-requires : goal.listed-requires
listed-requires c = record { listed = args_listed }

pub returns-in_err-symbol-clause-reads : goal.returns-in_err-symbol-clause-reads
returns-in_err-symbol-clause-reads c = stop (begin (con_begun _)) c.in_err-symbol.ensures.reads c.from_residual.ensures.1

pub returns-in_err-name-clause-reads : goal.returns-in_err-name-clause-reads
returns-in_err-name-clause-reads c = stop (begin (con_begun _) then c.in_ok-symbol.ensures.reads) c.in_err-name.ensures.reads c.from_residual-in_err-name.ensures.1

pub returns-in_err-symbol-2-clause-reads : goal.returns-in_err-symbol-2-clause-reads
returns-in_err-symbol-2-clause-reads c = stop (begin (con_begun _) then c.in_ok-symbol.ensures.reads then c.in_ok-name.ensures.reads) c.in_err-symbol-2.ensures.reads c.from_residual-in_err-symbol-2.ensures.1

pub returns-in_err-args-clause-reads : goal.returns-in_err-args-clause-reads
returns-in_err-args-clause-reads c = stop (begin (con_begun _) then c.in_ok-symbol.ensures.reads then c.in_ok-name.ensures.reads then c.in_ok-symbol-2.ensures.reads) c.in_err-args.ensures.reads c.from_residual-in_err-args.ensures.1

pub returns-in_err-anns-clause-reads : goal.returns-in_err-anns-clause-reads
returns-in_err-anns-clause-reads c = stop (begin (con_begun _) then c.in_ok-symbol.ensures.reads then c.in_ok-name.ensures.reads then c.in_ok-symbol-2.ensures.reads then c.in_ok-args.ensures.reads) c.in_err-anns.ensures.reads c.from_residual-in_err-anns.ensures.1

pub returns-in_err-symbol-3-clause-reads : goal.returns-in_err-symbol-3-clause-reads
returns-in_err-symbol-3-clause-reads c = stop_last (begin (con_begun _) then c.in_ok-symbol.ensures.reads then c.in_ok-name.ensures.reads then c.in_ok-symbol-2.ensures.reads then c.in_ok-args.ensures.reads then c.in_ok-anns.ensures.reads) c.in_err-symbol-3.ensures.reads c.from_residual-in_err-symbol-3.ensures.1

pub returns-clause-reads : goal.returns-clause-reads
returns-clause-reads c = done (begin (con_begun _) then c.in_ok-symbol.ensures.reads then c.in_ok-name.ensures.reads then c.in_ok-symbol-2.ensures.reads then c.in_ok-args.ensures.reads then c.in_ok-anns.ensures.reads) c.in_ok-symbol-3.ensures.reads
