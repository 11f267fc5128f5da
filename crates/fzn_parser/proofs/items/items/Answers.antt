-- One part behind another.
use Rattle.fzn_parser.proofs.PredicateLaws.{predicates_many}
use Rattle.fzn_parser.proofs.ItemLaws.{cons_many, items_begun}
use Rattle.fzn_parser.proofs.Onward.{begin, ◌then◌, stop, stop_last, done}
use Rattle.fzn_parser.proofs.items.items.Goals as goal

pub many-requires : goal.many-requires
many-requires c = record { many = predicates_many }

pub many-requires-2 : goal.many-requires-2
many-requires-2 c = record { many = cons_many }

pub returns-in_err-predicates : goal.returns-in_err-predicates
returns-in_err-predicates c = record { reads = stop (begin (items_begun _)) c.in_err-predicates.ensures.reads c.from_residual.ensures.1 }

pub returns-in_err-params : goal.returns-in_err-params
returns-in_err-params c = record { reads = stop (begin (items_begun _) then c.in_ok-predicates.ensures.reads) c.in_err-params.ensures.reads c.from_residual-in_err-params.ensures.1 }

pub returns-in_err-cons : goal.returns-in_err-cons
returns-in_err-cons c = record { reads = stop (begin (items_begun _) then c.in_ok-predicates.ensures.reads then c.in_ok-params.ensures.reads) c.in_err-cons.ensures.reads c.from_residual-in_err-cons.ensures.1 }

pub returns-in_err-solve : goal.returns-in_err-solve
returns-in_err-solve c = record { reads = stop_last (begin (items_begun _) then c.in_ok-predicates.ensures.reads then c.in_ok-params.ensures.reads then c.in_ok-cons.ensures.reads) c.in_err-solve.ensures.reads c.from_residual-in_err-solve.ensures.1 }

pub returns : goal.returns
returns c = record { reads = done (begin (items_begun _) then c.in_ok-predicates.ensures.reads then c.in_ok-params.ensures.reads then c.in_ok-cons.ensures.reads) c.in_ok-solve.ensures.reads }
