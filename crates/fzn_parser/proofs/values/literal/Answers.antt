-- The forms of a literal, by the token that is next.
use Rattle.std.proofs.Common.{sym, ◌∙◌}
use Rattle.fzn_parser.proofs.OneTokenLaws.{nothing_read}
use Rattle.fzn_parser.specs.GoesOn.{goes_further}
use Rattle.fzn_parser.proofs.LiteralLaws.{literal_true, literal_false, literal_set, literal_number, tail_range, tail_none}
use Rattle.fzn_parser.proofs.Onward.{begin, ◌then◌, stop, stop_last, done, inside, is_read}
use Rattle.std.proofs.Common.{rules, w64}
use Rattle.std.proofs.lemmas.Int.{to_z-of_z}
use Rattle.fzn_parser.proofs.values.literal.Goals as goal

pub returns-in_err-symbol_position-clause-reads : goal.returns-in_err-symbol_position-clause-reads
returns-in_err-symbol_position-clause-reads c = stop_last (begin (literal_true _ (sym c.sees.ensures ∙ c.if-sees.true))) c.in_err-symbol_position.ensures.reads c.from_residual.ensures.1

pub returns-then-sees-clause-reads : goal.returns-then-sees-clause-reads
returns-then-sees-clause-reads c = done (begin (literal_true _ (sym c.sees.ensures ∙ c.if-sees.true))) c.in_ok-symbol_position.ensures.reads

pub returns-in_err-symbol_position-2-clause-reads : goal.returns-in_err-symbol_position-2-clause-reads
returns-in_err-symbol_position-2-clause-reads c = stop_last (begin (literal_false _ (sym c.sees-2.ensures ∙ c.if-sees-2.true))) c.in_err-symbol_position-2.ensures.reads c.from_residual-in_err-symbol_position-2.ensures.1

pub returns-then-sees-2-clause-reads : goal.returns-then-sees-2-clause-reads
returns-then-sees-2-clause-reads c = done (begin (literal_false _ (sym c.sees-2.ensures ∙ c.if-sees-2.true))) c.in_ok-symbol_position-2.ensures.reads

pub returns-in_err-position-clause-reads : goal.returns-in_err-position-clause-reads
returns-in_err-position-clause-reads c = stop (begin (literal_set _ (sym c.sees-3.ensures ∙ c.if-sees-3.true))) c.in_err-position.ensures.reads c.from_residual-in_err-position.ensures.1

pub returns-in_err-values-clause-reads : goal.returns-in_err-values-clause-reads
returns-in_err-values-clause-reads c = stop_last (begin (literal_set _ (sym c.sees-3.ensures ∙ c.if-sees-3.true)) then c.in_ok-position.ensures.reads) c.in_err-values.ensures.reads c.from_residual-in_err-values.ensures.1

pub returns-then-sees-3-clause-reads : goal.returns-then-sees-3-clause-reads
returns-then-sees-3-clause-reads c = rw c.in_ok-new.ensures (done (begin (literal_set _ (sym c.sees-3.ensures ∙ c.if-sees-3.true)) then c.in_ok-position.ensures.reads) c.in_ok-values.ensures.reads)

pub returns-in_err-low-clause-reads : goal.returns-in_err-low-clause-reads
returns-in_err-low-clause-reads c = stop (begin (literal_number _ (sym c.sees.ensures ∙ c.if-sees.false) (sym c.sees-2.ensures ∙ c.if-sees-2.false) (sym c.sees-3.ensures ∙ c.if-sees-3.false))) c.in_err-low.ensures.reads c.from_residual-in_err-low.ensures.1

pub returns-in_err-symbol-clause-reads : goal.returns-in_err-symbol-clause-reads
returns-in_err-symbol-clause-reads c = stop (inside (begin (literal_number _ (sym c.sees.ensures ∙ c.if-sees.false) (sym c.sees-2.ensures ∙ c.if-sees-2.false) (sym c.sees-3.ensures ∙ c.if-sees-3.false)) then c.in_ok-low.ensures.reads) (begin (tail_range _ (sym c.sees-4.ensures ∙ c.if-sees-4.true)))) c.in_err-symbol.ensures.reads c.from_residual-in_err-symbol.ensures.1

pub returns-in_err-high-clause-reads : goal.returns-in_err-high-clause-reads
returns-in_err-high-clause-reads c = stop_last (inside (begin (literal_number _ (sym c.sees.ensures ∙ c.if-sees.false) (sym c.sees-2.ensures ∙ c.if-sees-2.false) (sym c.sees-3.ensures ∙ c.if-sees-3.false)) then c.in_ok-low.ensures.reads) (begin (tail_range _ (sym c.sees-4.ensures ∙ c.if-sees-4.true))) then c.in_ok-symbol.ensures.reads) c.in_err-high.ensures.reads c.from_residual-in_err-high.ensures.1

pub returns-then-sees-4-clause-reads : goal.returns-then-sees-4-clause-reads
returns-then-sees-4-clause-reads c = rw (to_z-of_z w64 c.in_ok-high.high (search rules)) (done (inside (begin (literal_number _ (sym c.sees.ensures ∙ c.if-sees.false) (sym c.sees-2.ensures ∙ c.if-sees-2.false) (sym c.sees-3.ensures ∙ c.if-sees-3.false)) then c.in_ok-low.ensures.reads) (begin (tail_range _ (sym c.sees-4.ensures ∙ c.if-sees-4.true))) then c.in_ok-symbol.ensures.reads) c.in_ok-high.ensures.reads)

pub returns-clause-reads : goal.returns-clause-reads
returns-clause-reads c = done (inside (begin (literal_number _ (sym c.sees.ensures ∙ c.if-sees.false) (sym c.sees-2.ensures ∙ c.if-sees-2.false) (sym c.sees-3.ensures ∙ c.if-sees-3.false)) then c.in_ok-low.ensures.reads) (begin (tail_none _ (sym c.sees-4.ensures ∙ c.if-sees-4.false)))) (is_read (nothing_read goes_further _))
