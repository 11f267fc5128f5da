-- Values in braces, or a range.
use Rattle.std.proofs.Common.{sym, ◌∙◌}
use Rattle.fzn_parser.proofs.LiteralLaws.{values_braced, values_range}
use Rattle.fzn_parser.proofs.Onward.{begin, ◌then◌, stop, stop_last, done}
use Rattle.std.proofs.Common.{rules, w64}
use Rattle.std.proofs.lemmas.Int.{to_z-of_z}
use Rattle.fzn_parser.proofs.values.values.Goals as goal

pub returns-in_err-symbol-clause-reads : goal.returns-in_err-symbol-clause-reads
returns-in_err-symbol-clause-reads c = stop (begin (values_braced _ (sym c.sees.ensures ∙ c.if-sees.true))) c.in_err-symbol.ensures.reads c.from_residual.ensures.1

pub returns-in_err-listed_values-clause-reads : goal.returns-in_err-listed_values-clause-reads
returns-in_err-listed_values-clause-reads c = stop_last (begin (values_braced _ (sym c.sees.ensures ∙ c.if-sees.true)) then c.in_ok-symbol.ensures.reads) c.in_err-listed_values.ensures.reads c.from_residual-in_err-listed_values.ensures.1

pub returns-then-sees-clause-reads : goal.returns-then-sees-clause-reads
returns-then-sees-clause-reads c = done (begin (values_braced _ (sym c.sees.ensures ∙ c.if-sees.true)) then c.in_ok-symbol.ensures.reads) c.in_ok-listed_values.ensures.reads

pub returns-in_err-low-clause-reads : goal.returns-in_err-low-clause-reads
returns-in_err-low-clause-reads c = stop (begin (values_range _ (sym c.sees.ensures ∙ c.if-sees.false))) c.in_err-low.ensures.reads c.from_residual-in_err-low.ensures.1

pub returns-in_err-symbol-2-clause-reads : goal.returns-in_err-symbol-2-clause-reads
returns-in_err-symbol-2-clause-reads c = stop (begin (values_range _ (sym c.sees.ensures ∙ c.if-sees.false)) then c.in_ok-low.ensures.reads) c.in_err-symbol-2.ensures.reads c.from_residual-in_err-symbol-2.ensures.1

pub returns-in_err-high-clause-reads : goal.returns-in_err-high-clause-reads
returns-in_err-high-clause-reads c = stop_last (begin (values_range _ (sym c.sees.ensures ∙ c.if-sees.false)) then c.in_ok-low.ensures.reads then c.in_ok-symbol-2.ensures.reads) c.in_err-high.ensures.reads c.from_residual-in_err-high.ensures.1

pub returns-clause-reads : goal.returns-clause-reads
returns-clause-reads c = rw (to_z-of_z w64 c.in_ok-high.high (search rules)) (done (begin (values_range _ (sym c.sees.ensures ∙ c.if-sees.false)) then c.in_ok-low.ensures.reads then c.in_ok-symbol-2.ensures.reads) c.in_ok-high.ensures.reads)
