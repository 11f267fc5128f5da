-- An array, or a literal or name.
use Rattle.std.proofs.Common.{sym, ◌∙◌}
use Rattle.fzn_parser.proofs.ValueLaws.{arg_array, arg_basic}
use Rattle.fzn_parser.proofs.Onward.{begin, stop_last, done}
use Rattle.fzn_parser.proofs.values.arg.Goals as goal

pub returns-in_err-array-clause-reads : goal.returns-in_err-array-clause-reads
returns-in_err-array-clause-reads c = stop_last (begin (arg_array _ (sym c.sees.ensures ∙ c.if-sees.true))) c.in_err-array.ensures.reads c.from_residual.ensures.1

pub returns-in_ok-array-clause-reads : goal.returns-in_ok-array-clause-reads
returns-in_ok-array-clause-reads c = done (begin (arg_array _ (sym c.sees.ensures ∙ c.if-sees.true))) c.in_ok-array.ensures.reads

pub returns-in_err-basic-clause-reads : goal.returns-in_err-basic-clause-reads
returns-in_err-basic-clause-reads c = stop_last (begin (arg_basic _ (sym c.sees.ensures ∙ c.if-sees.false))) c.in_err-basic.ensures.reads c.from_residual-in_err-basic.ensures.1

pub returns-in_ok-basic-clause-reads : goal.returns-in_ok-basic-clause-reads
returns-in_ok-basic-clause-reads c = done (begin (arg_basic _ (sym c.sees.ensures ∙ c.if-sees.false))) c.in_ok-basic.ensures.reads
