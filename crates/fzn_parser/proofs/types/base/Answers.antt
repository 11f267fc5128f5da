-- The forms of a type, by the token that is next.
use Rattle.std.proofs.Common.{sym, ◌∙◌}
use Rattle.fzn_parser.proofs.TypeLaws.{base_bool, base_int, base_set, base_values}
use Rattle.fzn_parser.proofs.Onward.{begin, ◌then◌, stop, stop_last, done}
use Rattle.fzn_parser.proofs.types.base.Goals as goal

pub returns-in_err-symbol-clause-reads : goal.returns-in_err-symbol-clause-reads
returns-in_err-symbol-clause-reads c = stop_last (begin (base_bool _ (sym c.sees.ensures ∙ c.if-sees.true))) c.in_err-symbol.ensures.reads c.from_residual.ensures.1

pub returns-then-sees-clause-reads : goal.returns-then-sees-clause-reads
returns-then-sees-clause-reads c = done (begin (base_bool _ (sym c.sees.ensures ∙ c.if-sees.true))) c.in_ok-symbol.ensures.reads

pub returns-in_err-symbol_position-clause-reads : goal.returns-in_err-symbol_position-clause-reads
returns-in_err-symbol_position-clause-reads c = stop_last (begin (base_int _ (sym c.sees-2.ensures ∙ c.if-sees-2.true))) c.in_err-symbol_position.ensures.reads c.from_residual-in_err-symbol_position.ensures.1

pub returns-then-sees-2-clause-reads : goal.returns-then-sees-2-clause-reads
returns-then-sees-2-clause-reads c = done (begin (base_int _ (sym c.sees-2.ensures ∙ c.if-sees-2.true))) c.in_ok-symbol_position.ensures.reads

pub returns-in_err-position-clause-reads : goal.returns-in_err-position-clause-reads
returns-in_err-position-clause-reads c = stop (begin (base_set _ (sym c.sees-3.ensures ∙ c.if-sees-3.true))) c.in_err-position.ensures.reads c.from_residual-in_err-position.ensures.1

pub returns-in_err-symbol-2-clause-reads : goal.returns-in_err-symbol-2-clause-reads
returns-in_err-symbol-2-clause-reads c = stop (begin (base_set _ (sym c.sees-3.ensures ∙ c.if-sees-3.true)) then c.in_ok-position.ensures.reads) c.in_err-symbol-2.ensures.reads c.from_residual-in_err-symbol-2.ensures.1

pub returns-in_err-elements-clause-reads : goal.returns-in_err-elements-clause-reads
returns-in_err-elements-clause-reads c = stop_last (begin (base_set _ (sym c.sees-3.ensures ∙ c.if-sees-3.true)) then c.in_ok-position.ensures.reads then c.in_ok-symbol-2.ensures.reads) c.in_err-elements.ensures.reads c.from_residual-in_err-elements.ensures.1

pub returns-then-sees-3-clause-reads : goal.returns-then-sees-3-clause-reads
returns-then-sees-3-clause-reads c = done (begin (base_set _ (sym c.sees-3.ensures ∙ c.if-sees-3.true)) then c.in_ok-position.ensures.reads then c.in_ok-symbol-2.ensures.reads) c.in_ok-elements.ensures.reads

pub returns-in_err-values-clause-reads : goal.returns-in_err-values-clause-reads
returns-in_err-values-clause-reads c = stop_last (begin (base_values _ (sym c.sees.ensures ∙ c.if-sees.false) (sym c.sees-2.ensures ∙ c.if-sees-2.false) (sym c.sees-3.ensures ∙ c.if-sees-3.false))) c.in_err-values.ensures.reads c.from_residual-in_err-values.ensures.1

pub returns-clause-reads : goal.returns-clause-reads
returns-clause-reads c = done (begin (base_values _ (sym c.sees.ensures ∙ c.if-sees.false) (sym c.sees-2.ensures ∙ c.if-sees-2.false) (sym c.sees-3.ensures ∙ c.if-sees-3.false))) c.in_ok-values.ensures.reads
