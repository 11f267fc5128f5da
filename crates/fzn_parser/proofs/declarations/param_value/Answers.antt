-- A literal, or literals in brackets.
use Rattle.std.proofs.Common.{sym, ◌∙◌}
use Rattle.fzn_parser.proofs.ValueLaws.{param_entries_listed}
use Rattle.fzn_parser.proofs.ParamLaws.{value_literal, value_array}
use Rattle.fzn_parser.proofs.Onward.{begin, ◌then◌, stop, stop_last, done}
use Rattle.fzn_parser.proofs.declarations.param_value.Goals as goal

pub returns-in_err-literal-clause-reads : goal.returns-in_err-literal-clause-reads
returns-in_err-literal-clause-reads c = stop_last (begin (value_literal _ (sym c.sees.ensures ∙ c.if-not-sees.true))) c.in_err-literal.ensures.reads c.from_residual.ensures.1

pub returns-then-not-sees-clause-reads : goal.returns-then-not-sees-clause-reads
returns-then-not-sees-clause-reads c = done (begin (value_literal _ (sym c.sees.ensures ∙ c.if-not-sees.true))) c.in_ok-literal.ensures.reads

pub listed-requires : goal.listed-requires
listed-requires c = record { listed = param_entries_listed }

pub returns-in_err-position-clause-reads : goal.returns-in_err-position-clause-reads
returns-in_err-position-clause-reads c = stop (begin (value_array _ (sym c.sees.ensures ∙ c.if-not-sees.false))) c.in_err-position.ensures.reads c.from_residual-in_err-position.ensures.1

pub returns-in_err-entries-clause-reads : goal.returns-in_err-entries-clause-reads
returns-in_err-entries-clause-reads c = stop_last (begin (value_array _ (sym c.sees.ensures ∙ c.if-not-sees.false)) then c.in_ok-position.ensures.reads) c.in_err-entries.ensures.reads c.from_residual-in_err-entries.ensures.1

pub returns-clause-reads : goal.returns-clause-reads
returns-clause-reads c = done (begin (value_array _ (sym c.sees.ensures ∙ c.if-not-sees.false)) then c.in_ok-position.ensures.reads) c.in_ok-entries.ensures.reads
