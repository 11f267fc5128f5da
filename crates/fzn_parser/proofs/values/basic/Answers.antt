-- A name, or a literal.
use Rattle.std.proofs.Common.{sym, ◌∙◌}
use Rattle.fzn_parser.proofs.ValueLaws.{basic_name, basic_literal}
use Rattle.fzn_parser.proofs.Onward.{begin, stop_last, done}
use Rattle.fzn_parser.proofs.values.basic.Goals as goal

pub returns-in_err-name-clause-reads : goal.returns-in_err-name-clause-reads
returns-in_err-name-clause-reads c = stop_last (begin (basic_name _ (sym c.sees.ensures ∙ c.if-sees.true))) c.in_err-name.ensures.reads c.from_residual.ensures.1

pub returns-in_ok-name-clause-reads : goal.returns-in_ok-name-clause-reads
returns-in_ok-name-clause-reads c = done (begin (basic_name _ (sym c.sees.ensures ∙ c.if-sees.true))) c.in_ok-name.ensures.reads

pub returns-in_err-literal-clause-reads : goal.returns-in_err-literal-clause-reads
returns-in_err-literal-clause-reads c = stop_last (begin (basic_literal _ (sym c.sees.ensures ∙ c.if-sees.false))) c.in_err-literal.ensures.reads c.from_residual-in_err-literal.ensures.1

pub returns-in_ok-literal-clause-reads : goal.returns-in_ok-literal-clause-reads
returns-in_ok-literal-clause-reads c = done (begin (basic_literal _ (sym c.sees.ensures ∙ c.if-sees.false))) c.in_ok-literal.ensures.reads
