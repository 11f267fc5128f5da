-- `int`, or the numbers from 1 on.
use Rattle.std.proofs.Common.{sym, ◌∙◌}
use Rattle.fzn_parser.proofs.PredicateLaws.{indices_any, indices_size}
use Rattle.fzn_parser.proofs.Onward.{begin, stop_last, done}
use Rattle.fzn_parser.proofs.predicates.index_set.Goals as goal

pub returns-in_err-symbol-clause-reads : goal.returns-in_err-symbol-clause-reads
returns-in_err-symbol-clause-reads c = stop_last (begin (indices_any _ (sym c.sees.ensures ∙ c.if-sees.true))) c.in_err-symbol.ensures.reads c.from_residual.ensures.1

pub returns-then-sees-clause-reads : goal.returns-then-sees-clause-reads
returns-then-sees-clause-reads c = done (begin (indices_any _ (sym c.sees.ensures ∙ c.if-sees.true))) c.in_ok-symbol.ensures.reads

pub returns-in_err-index-clause-reads : goal.returns-in_err-index-clause-reads
returns-in_err-index-clause-reads c = stop_last (begin (indices_size _ (sym c.sees.ensures ∙ c.if-sees.false))) c.in_err-index.ensures.reads c.from_residual-in_err-index.ensures.1

pub returns-clause-reads : goal.returns-clause-reads
returns-clause-reads c = done (begin (indices_size _ (sym c.sees.ensures ∙ c.if-sees.false))) c.in_ok-index.ensures.reads
