-- `int`, or the values.
use Rattle.std.proofs.Common.{sym, ◌∙◌}
use Rattle.fzn_parser.proofs.TypeLaws.{elements_any, elements_of}
use Rattle.fzn_parser.proofs.Onward.{begin, stop_last, done}
use Rattle.fzn_parser.proofs.types.elements.Goals as goal

pub returns-in_err-symbol-clause-reads : goal.returns-in_err-symbol-clause-reads
returns-in_err-symbol-clause-reads c = stop_last (begin (elements_any _ (sym c.sees.ensures ∙ c.if-sees.true))) c.in_err-symbol.ensures.reads c.from_residual.ensures.1

pub returns-then-sees-clause-reads : goal.returns-then-sees-clause-reads
returns-then-sees-clause-reads c = done (begin (elements_any _ (sym c.sees.ensures ∙ c.if-sees.true))) c.in_ok-symbol.ensures.reads

pub returns-in_err-values-clause-reads : goal.returns-in_err-values-clause-reads
returns-in_err-values-clause-reads c = stop_last (begin (elements_of _ (sym c.sees.ensures ∙ c.if-sees.false))) c.in_err-values.ensures.reads c.from_residual-in_err-values.ensures.1

pub returns-clause-reads : goal.returns-clause-reads
returns-clause-reads c = done (begin (elements_of _ (sym c.sees.ensures ∙ c.if-sees.false))) c.in_ok-values.ensures.reads
