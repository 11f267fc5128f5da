-- A semicolon, alone or behind a value.
use Rattle.std.proofs.Common.{sym, ◌∙◌}
use Rattle.fzn_parser.proofs.VarLaws.{given_none, given_some}
use Rattle.fzn_parser.proofs.Onward.{begin, ◌then◌, stop, stop_last, done}
use Rattle.fzn_parser.proofs.declarations.given.Goals as goal

pub returns-in_err-symbol-clause-reads : goal.returns-in_err-symbol-clause-reads
returns-in_err-symbol-clause-reads c = stop_last (begin (given_none _ (sym c.sees.ensures ∙ c.if-not-sees.true))) c.in_err-symbol.ensures.reads c.from_residual.ensures.1

pub returns-then-not-sees-clause-reads : goal.returns-then-not-sees-clause-reads
returns-then-not-sees-clause-reads c = done (begin (given_none _ (sym c.sees.ensures ∙ c.if-not-sees.true))) c.in_ok-symbol.ensures.reads

pub returns-in_err-symbol-2-clause-reads : goal.returns-in_err-symbol-2-clause-reads
returns-in_err-symbol-2-clause-reads c = stop (begin (given_some _ (sym c.sees.ensures ∙ c.if-not-sees.false))) c.in_err-symbol-2.ensures.reads c.from_residual-in_err-symbol-2.ensures.1

pub returns-in_err-value-clause-reads : goal.returns-in_err-value-clause-reads
returns-in_err-value-clause-reads c = stop (begin (given_some _ (sym c.sees.ensures ∙ c.if-not-sees.false)) then c.in_ok-symbol-2.ensures.reads) c.in_err-value.ensures.reads c.from_residual-in_err-value.ensures.1

pub returns-in_err-symbol-3-clause-reads : goal.returns-in_err-symbol-3-clause-reads
returns-in_err-symbol-3-clause-reads c = stop_last (begin (given_some _ (sym c.sees.ensures ∙ c.if-not-sees.false)) then c.in_ok-symbol-2.ensures.reads then c.in_ok-value.ensures.reads) c.in_err-symbol-3.ensures.reads c.from_residual-in_err-symbol-3.ensures.1

pub returns-clause-reads : goal.returns-clause-reads
returns-clause-reads c = done (begin (given_some _ (sym c.sees.ensures ∙ c.if-not-sees.false)) then c.in_ok-symbol-2.ensures.reads then c.in_ok-value.ensures.reads) c.in_ok-symbol-3.ensures.reads
