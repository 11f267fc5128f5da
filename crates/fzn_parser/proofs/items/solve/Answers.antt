-- One part behind another.
use Rattle.fzn_parser.proofs.ItemLaws.{solve_begun}
use Rattle.fzn_parser.proofs.Onward.{begin, ◌then◌, stop, stop_last, done}
use Rattle.fzn_parser.proofs.items.solve.Goals as goal

pub returns-in_err-symbol : goal.returns-in_err-symbol
returns-in_err-symbol c = record { reads = stop (begin (solve_begun _)) c.in_err-symbol.ensures.reads c.from_residual.ensures.1 }

pub returns-in_err-anns : goal.returns-in_err-anns
returns-in_err-anns c = record { reads = stop (begin (solve_begun _) then c.in_ok-symbol.ensures.reads) c.in_err-anns.ensures.reads c.from_residual-in_err-anns.ensures.1 }

pub returns-in_err-goal : goal.returns-in_err-goal
returns-in_err-goal c = record { reads = stop (begin (solve_begun _) then c.in_ok-symbol.ensures.reads then c.in_ok-anns.ensures.reads) c.in_err-goal.ensures.reads c.from_residual-in_err-goal.ensures.1 }

pub returns-in_err-symbol-2 : goal.returns-in_err-symbol-2
returns-in_err-symbol-2 c = record { reads = stop_last (begin (solve_begun _) then c.in_ok-symbol.ensures.reads then c.in_ok-anns.ensures.reads then c.in_ok-goal.ensures.reads) c.in_err-symbol-2.ensures.reads c.from_residual-in_err-symbol-2.ensures.1 }

pub returns : goal.returns
returns c = record { reads = done (begin (solve_begun _) then c.in_ok-symbol.ensures.reads then c.in_ok-anns.ensures.reads then c.in_ok-goal.ensures.reads) c.in_ok-symbol-2.ensures.reads }
